-- The promise is kept by every lawful kind.
use Rattle.std.proofs.Common.{◌≡◌, ℕ, ◌<◌, Bool, true, false, cond, ◌||◌, ltb, leb, List, [], ◌∷◌, ◌++◌, map, length, sym, refl, ap, ◌∙◌, subst, arith}
use Rattle.std.proofs.lemmas.List.{map_push, length-map}
use Rattle.synopsis.specs.Kind.{Kind, Laws}
use Rattle.histories.specs.declared.Call.TheVariants.{Read}
use Rattle.histories.specs.declared.Turn.{Turn}
use Rattle.histories.specs.Deeds.{Contribution, deed, History, history_after}
use Rattle.histories.specs.Folds.{node_form, Came, IsFold}
use Rattle.histories.proofs.Finding.{found, complete, filled_found, filled_complete}
use Rattle.histories.proofs.Folding.{arranged_is, same_contributions}
use Rattle.histories.proofs.Exactly.{search_folds, fold_unique, equal_folds}
use Rattle.diffusion.specs.Turns.{Told, bytes, refused, is_accepted, call_leaves, written_node, if_accepted, SameBut}
use Rattle.diffusion.specs.Runs.{Rack, formed, rack_tells, Step, Opened, Ran, begun, then}
use Rattle.diffusion.specs.Owed.{Answered, due, more, none, owes, past, refused_if, call_owes}
use Rattle.diffusion.specs.Promise.{Kept, Promise, node_holds}
use Rattle.diffusion.proofs.Keeping.{tells_owes}
use Rattle.diffusion.proofs.Running.{holding, as_many, front}
use Rattle.diffusion.proofs.Outside.{beyond}

-- an answer that gives bytes met no refusal
pub unrefused : (b : Bool) (number : ℕ) (rest : Told) (bs : List ℕ) → refused_if b number rest ≡ bytes bs → rest ≡ bytes bs
unrefused true number rest bs e = absurd (cc)
unrefused false number rest bs e = e

same_bytes : (xs ys : List ℕ) → bytes xs ≡ bytes ys → xs ≡ ys
same_bytes xs ys e = cc

-- the bytes that a READ is owed
pub read_owed : (k : Kind) (nodes : ℕ) (h : History) (t : Turn) (n room : ℕ) (bs : List ℕ) → t.call ≡ Read n room → owes k nodes h t ≡ bytes bs → bs ≡ k.encoding (node_form k h n)
read_owed k nodes h t n room bs is e =
    let frame = k.encoding (node_form k h n) in
    let called = unrefused (ltb t.values nodes || ltb t.bytes 65536) 2 (call_owes k nodes h t.call) bs e in
    let read : call_owes k nodes h (Read n room) ≡ bytes bs = sym (ap (call_owes k nodes h) is) ∙ called in
    let at_node = unrefused (leb nodes n) 4 (refused_if (ltb room (length frame)) 8 (bytes frame)) bs read in
    sym (same_bytes frame bs (unrefused (ltb room (length frame)) 8 (bytes frame) bs at_node))

-- one turn more in a history
history_more : (h : History) (ts : List Turn) (accepted : List Bool) (t : Turn) (a : Bool) → length ts ≡ length accepted → history_after h (ts ++ t ∷ []) (accepted ++ a ∷ []) ≡ deed t.call a ∷ history_after h ts accepted
history_more h [] [] t a e = refl
history_more h [] (b ∷ accepted) t a e = absurd (omega arith)
history_more h (u ∷ ts) [] t a e = absurd (omega arith)
history_more h (u ∷ ts) (b ∷ accepted) t a e = history_more (deed u.call b ∷ h) ts accepted t a (omega arith)

module _ {S : Type 0} (k : Kind) (laws : Laws k) (form : S → k.Form) where
  history_is : {first : Rack S} {ts : List Turn} {ws : List Told} {h : History} {last : Rack S} → Ran k form first ts ws h last → h ≡ history_after [] ts (map is_accepted ws)
  history_is begun = refl
  history_is (then {ts = ts} {ws = ws} {r = r} ran t after s) =
      let w = rack_tells k form r t in
      let many = as_many k form ran in
      ap (λ (l : History). deed t.call (is_accepted w) ∷ l) (history_is ran)
      ∙ sym (history_more [] ts (map is_accepted ws) t (is_accepted w) (many ∙ sym (length-map ws is_accepted)))
      ∙ ap (history_after [] (ts ++ t ∷ [])) (sym (map_push is_accepted ws w))

  module _ (nodes : ℕ) (values : List S) (memory : List ℕ) (first : Rack S) (o : Opened k form nodes values memory first) where
    -- whatever turn comes next tells what is owed
    next_owed : {ts : List Turn} {ws : List Told} {h : History} {last : Rack S} → Ran k form first ts ws h last → (t : Turn) → rack_tells k form last t ≡ owes k nodes h t
    next_owed {h = h} {last = last} ran t = tells_owes k laws nodes h (formed k form last) (holding k form laws nodes values memory o ran) t

    -- so every answer was
    answered : {ts : List Turn} {ws : List Told} {h : History} {last : Rack S} → Ran k form first ts ws h last → Answered k nodes ts ws h
    answered begun = none
    answered (then {ts = ts} {ws = ws} {h = h} {r = r} ran t after s) =
        subst (λ (w : Told). Answered k nodes (ts ++ t ∷ []) (ws ++ w ∷ []) (deed t.call (is_accepted w) ∷ h)) (sym (next_owed ran t)) (more (answered ran) t)

  module _ (nodes : ℕ) where
    -- one turn more, computed
    past_more : (h : History) (ts : List Turn) (t : Turn) → past k nodes h (ts ++ t ∷ []) ≡ deed t.call (is_accepted (owes k nodes (past k nodes h ts) t)) ∷ past k nodes h ts
    past_more h [] t = refl
    past_more h (u ∷ ts) t = past_more (deed u.call (is_accepted (owes k nodes h u)) ∷ h) ts t

    due_more : (h : History) (ts : List Turn) (t : Turn) → due k nodes h (ts ++ t ∷ []) ≡ due k nodes h ts ++ owes k nodes (past k nodes h ts) t ∷ []
    due_more h [] t = refl
    due_more h (u ∷ ts) t = ap (λ (l : List Told). owes k nodes h u ∷ l) (due_more (deed u.call (is_accepted (owes k nodes h u)) ∷ h) ts t)

    computed : {ts : List Turn} {ws : List Told} {h : History} → Answered k nodes ts ws h → (ws ≡ due k nodes [] ts) × (h ≡ past k nodes [] ts)
    computed none = (refl, refl)
    computed (more {ts = ts} {ws = ws} {h = h} a t) =
        let c = computed a in (
          ap (λ (l : List Told). l ++ owes k nodes h t ∷ []) c.0 ∙ ap (λ (g : History). due k nodes [] ts ++ owes k nodes g t ∷ []) c.1 ∙ sym (due_more [] ts t),
          ap (λ (g : History). deed t.call (is_accepted (owes k nodes g t)) ∷ g) c.1 ∙ sym (past_more [] ts t),
        )

  -- a turn whose answer is a refusal leaves all as it was
  refused_stays : (r after : Rack S) (t : Turn) (w : Told) → rack_tells k form r t ≡ w → is_accepted w ≡ false → Step k form r t after → after ≡ r
  refused_stays r after t w e f s =
      let no : is_accepted (rack_tells k form r t) ≡ false = ap is_accepted e ∙ f in
      let all : formed k form after ≡ formed k form r = s.leaves ∙ ap (λ (b : Bool). cond b (call_leaves k (formed k form r) t.call) (formed k form r)) no in
      let values : after.values ≡ r.values = subst (λ (b : Bool). SameBut (if_accepted b (written_node t.call)) r.values after.values) no s.others in
      λ i. record { net = (all i).net; values = values i; memory = (all i).memory }

module _ {S : Type 0} (k : Kind) (laws : Laws k) (form : S → k.Form) where
  kept_by : (nodes : ℕ) (values : List S) (memory : List ℕ) (first : Rack S) (ts : List Turn) (ws : List Told) (h : History) (last : Rack S) → Opened k form nodes values memory first → Ran k form first ts ws h last → Kept k form nodes values memory ts ws h last
  kept_by nodes values memory first ts ws h last o ran =
      let on = holding k form laws nodes values memory o ran in
      let owed = answered k laws form nodes values memory first o ran in
      let apart = beyond k laws form first nodes values memory o ran in
      let folds : (n : ℕ) → IsFold k h n (node_form k h n) = λ n. search_folds k h n (λ t. found h n t) (λ t. complete h n t on.sound) h in
      record {
        history = history_is k laws form ran;
        answers = owed;
        computed = (computed k laws form nodes owed).0;
        next = next_owed k laws form nodes values memory first o ran;
        holds = λ n lt. subst (IsFold k h n) (sym (on.nodes_hold n lt)) (folds n);
        reads = λ t n room bs is e. (node_form k h n, folds n, read_owed k nodes h t n room bs is (sym (next_owed k laws form nodes values memory first o ran t) ∙ e));
        arranged = λ n lt x a. ap k.encoding (arranged_is k laws h n (found h) (λ i t. complete h i t on.sound) x a ∙ sym (on.nodes_hold n lt));
        searched = on.nodes_hold;
        found = found h;
        complete = λ n t. complete h n t on.sound;
        sent_into = filled_found h;
        lying = filled_complete h;
        table = on.table;
        lies = on.lies;
        still = λ t after number at s e. (refused_stays k laws form last after t (refused number at) e refl s, refl);
        count = on.count;
        many = apart.0;
        beyond = apart.1;
        outside = apart.2;
      }

  pub promise : Promise k form
  promise = record {
    kept = kept_by;
    fronts = λ first ts ws h last ran i le. front k form first ran i le;
    one_fold = λ h n x y p q. fold_unique k h n h x y p q;
    equal_folds = λ h h' n n' x x' p q there back. ap k.encoding (equal_folds k laws h h' n n' x x' p q there back);
    agree = λ nodes nodes' values values' memory memory' first first' ts ts' ws ws' h h' last last' o ran o' ran' n n' lt lt' there back.
        let on = holding k form laws nodes values memory o ran in
        let on' = holding k form laws nodes' values' memory' o' ran' in
        ap k.encoding (on.nodes_hold n lt ∙ same_contributions k laws h h' n n' (found h) (λ i t. complete h i t on.sound) (found h') (λ i t. complete h' i t on'.sound) there back ∙ sym (on'.nodes_hold n' lt'));
  }

-- so in any two runs of one kind, whatever the values of each are made of, nodes with equal sets of contributions hold the
-- same bytes
module _ {S S' : Type 0} (k : Kind) (form : S → k.Form) (form' : S' → k.Form) (p : Promise k form) (p' : Promise k form') where
  pub agree_between : (nodes nodes' : ℕ) (values : List S) (values' : List S') (memory memory' : List ℕ) (first : Rack S) (first' : Rack S') (ts ts' : List Turn) (ws ws' : List Told) (h h' : History) (last : Rack S) (last' : Rack S')
      → Opened k form nodes values memory first → Ran k form first ts ws h last → Opened k form' nodes' values' memory' first' → Ran k form' first' ts' ws' h' last'
      → (n n' : ℕ) → n < nodes → n' < nodes'
      → ((g : Contribution) → Came h n g → Came h' n' g) → ((g : Contribution) → Came h' n' g → Came h n g)
      → k.encoding (node_holds k form last n) ≡ k.encoding (node_holds k form' last' n')
  agree_between nodes nodes' values values' memory memory' first first' ts ts' ws ws' h h' last last' o ran o' ran' n n' lt lt' there back =
      let on = p.kept nodes values memory first ts ws h last o ran in
      let on' = p'.kept nodes' values' memory' first' ts' ws' h' last' o' ran' in
      p.equal_folds h h' n n' (node_holds k form last n) (node_holds k form' last' n') (on.holds n lt) (on'.holds n' lt') there back
