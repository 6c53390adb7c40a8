-- A run begins with an accepted OPEN, goes on by one turn, and has two parts at each of its turns.
use Rattle.std.proofs.Common.{◌≡◌, ℕ, ◌+◌, ◌<◌, ◌≤◌, ◌||◌, ltb, List, [], ◌∷◌, ◌++◌, map, length, get_or, take, Ok, refl, sym, ap, ◌∙◌, subst, ⊎_elim, arith}
use Rattle.std.proofs.lemmas.List.{take-map, length-map, length-take, length_push, take_more, take_all, drop_all, take-append-le, drop-append-le}
use Rattle.std.proofs.lemmas.Bool.{ltb-false, or_parts, cases_lt}
use Rattle.synopsis.specs.Kind.{Kind, Laws, overlong}
use Rattle.histories.specs.declared.Turn.{Turn}
use Rattle.histories.specs.Deeds.{History, deed}
use Rattle.network.specs.Tables.{Table}
use Rattle.network.specs.Calls.{unless, with_enough_lent, open_answer, opened_network, Emptied}
use Rattle.network.proofs.Refusing.{not_refused}
use Rattle.diffusion.specs.Turns.{Told, is_accepted}
use Rattle.diffusion.specs.Listening.{Heard, silence, more}
use Rattle.diffusion.specs.Runs.{Rack, rack, formed, rack_tells, Step, Opened, Ran, begun, then, Made, Finished, StoppedAt}
use Rattle.diffusion.specs.Promise.{Front}
use Rattle.diffusion.proofs.Keeping.{Holding, holding_opened, turn_holds}

module _ {S : Type 0} (k : Kind) (form : S → k.Form) where
  -- what holds after every turn holds after an accepted OPEN
  opened_holds : (nodes : ℕ) (values : List S) (memory : List ℕ) (first : Rack S) → Opened k form nodes values memory first → Holding k nodes [] (formed k form first)
  opened_holds nodes values memory first o =
      let a = not_refused (ltb nodes 1 || ltb 16 nodes) 1 (with_enough_lent k nodes (length values) (length memory) (Ok tt)) (sym o.accepted) in
      let b = not_refused (ltb (length values) nodes || ltb (length memory) 65536) 2 (unless (overlong k) 3 (Ok tt)) a.1 in
      let c = not_refused (overlong k) 3 (Ok tt) b.1 in
      let lent = or_parts (ltb (length values) nodes) (ltb (length memory) 65536) b.0 in
      let enough = ltb-false (length values) nodes lent.0 in
      let room = ltb-false (length memory) 65536 lent.1 in
      let long : length (map form first.values) ≡ length values = length-map first.values form ∙ o.empty.long in
      let same : length first.memory ≡ length memory = ap length o.same in
      holding_opened k nodes (formed k form first) c.0 (omega arith) (omega arith) o.table (take-map form nodes first.values ∙ o.empty.forms)

  -- and so after a run
  pub holding : (laws : Laws k) (nodes : ℕ) (values : List S) (memory : List ℕ) {first : Rack S} {ts : List Turn} {ws : List Told} {h : History} {last : Rack S} → Opened k form nodes values memory first → Ran k form first ts ws h last → Holding k nodes h (formed k form last)
  holding laws nodes values memory {first = first} o begun = opened_holds nodes values memory first o
  holding laws nodes values memory o (then {h = h} {r = r} ran t after s) =
      subst (Holding k nodes (deed t.call (is_accepted (rack_tells k form r t)) ∷ h)) (sym s.leaves) (turn_holds k laws nodes h (formed k form r) (holding laws nodes values memory o ran) t)

  -- every turn told one answer
  pub as_many : {first : Rack S} {ts : List Turn} {ws : List Told} {h : History} {last : Rack S} → Ran k form first ts ws h last → length ts ≡ length ws
  as_many begun = refl
  as_many (then {ts = ts} {ws = ws} {r = r} ran t after s) = length_push ts t ∙ ap (λ (n : ℕ). n + 1) (as_many ran) ∙ sym (length_push ws (rack_tells k form r t))

  -- The two parts of a run at a turn

  -- the same run, of turns and answers that are the same lists
  same_run : {from last : Rack S} {ts ts' : List Turn} {ws ws' : List Told} {h : History} → ts ≡ ts' → ws ≡ ws' → Ran k form from ts ws h last → Ran k form from ts' ws' h last
  same_run {from = from} {last = last} {ts' = ts'} {ws = ws} {h = h} e f ran = subst (λ (l : List Told). Ran k form from ts' l h last) f (subst (λ (l : List Turn). Ran k form from l ws h last) e ran)

  whole_front : (first : Rack S) (i : ℕ) (ts : List Turn) (ws : List Told) (h : History) (last : Rack S) → Ran k form first ts ws h last → length ts ≤ i → Front k form first ts ws h last i
  whole_front first i ts ws h last ran le =
      let many = as_many ran in
      record {
        before = h;
        mid = last;
        later = [];
        ran = same_run (sym (take_all i ts le)) (sym (take_all i ws (omega arith))) ran;
        goes_on = same_run (sym (drop_all i ts le)) (sym (drop_all i ws (omega arith))) begun;
        whole = refl;
      }

  pub front : (first : Rack S) {ts : List Turn} {ws : List Told} {h : History} {last : Rack S} → Ran k form first ts ws h last → (i : ℕ) → i ≤ length ts → Front k form first ts ws h last i
  front first begun i le = whole_front first i [] [] [] first begun (omega arith)
  front first (then {ts = ts} {ws = ws} {h = h} {r = r} ran t after s) i le =
      let w = rack_tells k form r t in
      let d = deed t.call (is_accepted w) in
      let many = as_many ran in
      ⊎_elim
      (λ lt.
      let past : length ts < i = lt in
      whole_front first i (ts ++ t ∷ []) (ws ++ w ∷ []) (d ∷ h) after (then ran t after s) (simp length_push (omega (arith, past))))
      (λ ge. let f = front first ran i ge in record {
        before = f.before;
        mid = f.mid;
        later = d ∷ f.later;
        ran = same_run (sym (take-append-le i ts (t ∷ []) ge)) (sym (take-append-le i ws (w ∷ []) (omega arith))) f.ran;
        goes_on = same_run (sym (drop-append-le i ts (t ∷ []) ge)) (sym (drop-append-le i ws (w ∷ []) (omega arith))) (then f.goes_on t after s);
        whole = ap (λ (l : History). d ∷ l) f.whole;
      })
      (cases_lt (length ts) i)

-- The loop over the turns
module _ {S L : Type 0} (k : Kind) (form : S → k.Form) (hears stops : L → Told → L → Type 0) (nodes : ℕ) (values : List S) (memory : List ℕ) (turns : List Turn) (old : L) where
  -- so many turns were made, and every answer was heard
  pub record Going (i : ℕ) (now : L) (last : Rack S) : Type 0 where
    pub first : Rack S
    pub opened : Opened k form nodes values memory first
    pub told : List Told
    pub history : History
    pub ran : Ran k form first (take i turns) told history last
    pub heard : Heard hears old told now

  pub going : (net : Table) (after : List S) → Ok tt ≡ open_answer k nodes (length values) (length memory) → net ≡ opened_network nodes → Emptied form k.none values after nodes → Going 0 old (rack net after memory)
  going net after accepted table empty = record {
    first = rack net after memory;
    opened = record { accepted = sym accepted; table = table; empty = empty; same = refl };
    told = [];
    history = [];
    ran = begun;
    heard = silence;
  }

  -- so many turns that were made are as many answers
  made_so : (i : ℕ) (first : Rack S) (told : List Told) (h : History) (last : Rack S) → Opened k form nodes values memory first → i ≤ length turns → Ran k form first (take i turns) told h last → (length told ≡ i) × Made k form nodes values memory turns told last
  made_so i first told h last o le ran =
      let many = as_many k form ran in
      let n : length told ≡ i = simp length-take at (sym many) ∙ omega arith in (
        n,
        record {
          first = first;
          opened = o;
          few = omega arith;
          history = h;
          ran = subst (λ (j : ℕ). Ran k form first (take j turns) told h last) (sym n) ran;
        },
      )

  -- one turn is made more
  module _ (i : ℕ) (t : Turn) (mid : L) (r after : Rack S) (lt : i < length turns) (read : t ≡ get_or turns i t) (on : Going i mid r) (step : Step k form r t after) (w : Told) (tells : w ≡ rack_tells k form r t) where
    ran_more : Ran k form on.first (take (i + 1) turns) (on.told ++ w ∷ []) (deed t.call (is_accepted (rack_tells k form r t)) ∷ on.history) after
    ran_more =
        let h = deed t.call (is_accepted (rack_tells k form r t)) ∷ on.history in
        let ts : take i turns ++ t ∷ [] ≡ take (i + 1) turns = ap (λ (u : Turn). take i turns ++ u ∷ []) read ∙ sym (take_more turns i t lt) in
        subst (λ (x : Told). Ran k form on.first (take (i + 1) turns) (on.told ++ x ∷ []) h after) (sym tells)
        (subst (λ (l : List Turn). Ran k form on.first l (on.told ++ rack_tells k form r t ∷ []) h after) ts (then on.ran t after step))

    -- and its answer heard
    pub gone_on : (now : L) → hears mid w now → Going (i + 1) now after
    gone_on now hear = record {
      first = on.first;
      opened = on.opened;
      told = on.told ++ w ∷ [];
      history = deed t.call (is_accepted (rack_tells k form r t)) ∷ on.history;
      ran = ran_more;
      heard = more on.heard w now hear;
    }

    -- or not heard
    pub stopped : (now : L) → stops mid w now → StoppedAt k form hears stops nodes values memory turns old now after
    stopped now stop = record {
      told = on.told;
      unheard = w;
      mid = mid;
      made = (made_so (i + 1) on.first _ _ after on.opened (omega arith) ran_more).1;
      heard = on.heard;
      stop = stop;
    }

  pub finished : (i : ℕ) (now : L) (last : Rack S) → i ≡ length turns → Going i now last → Finished k form hears stops nodes values memory turns old now last
  finished i now last e on =
      let m = made_so i on.first on.told on.history last on.opened (omega arith) on.ran in
      record { told = on.told; each = m.0 ∙ e; made = m.1; heard = on.heard }
