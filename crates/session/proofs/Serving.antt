-- A line on an open network is told what the history owes, and leaves what goes on with the history.
use Rattle.std.proofs.Common.{◌≡◌, ℕ, ◌≤◌, Bool, true, false, cond, List, [], ◌∷◌, ◌++◌, length, None, Some, Ok, Err, Result, OnOk, MatchResult, is_err, leb, ltb, ◌||◌, refl, sym, ap, subst, ◌∙◌, ⊎_elim, arith}
use Rattle.std.proofs.lemmas.Bool.{cond-true, cases_Bool, leb-false, ltb-false, or_parts}
use Rattle.synopsis.specs.Kind.{Kind, Laws, overlong}
use Rattle.histories.specs.declared.Call.{Call}
use Rattle.histories.specs.declared.Call.TheVariants.{Generate, Arrive, Send, Deliver, Drop, Read}
use Rattle.histories.specs.declared.Turn.{Turn}
use Rattle.histories.specs.Deeds.{Deed, deed_of, deed, History}
use Rattle.histories.specs.Folds.{node_form}
use Rattle.network.specs.Calls.{unless, with_enough_lent, value_form}
use Rattle.network.proofs.Refusing.{not_refused}
use Rattle.diffusion.specs.Turns.{Told, done, bytes, refused, is_accepted}
use Rattle.diffusion.specs.Runs.{Rack, rack_tells, Step, Opened, Ran, then}
use Rattle.diffusion.specs.Owed.{owes, refused_if}
use Rattle.diffusion.specs.Promise.{Kept}
use Rattle.diffusion.proofs.Promising.{promise}
use Rattle.script.specs.declared.fault.LineFault.{LineFault}
use Rattle.script.specs.declared.ask.Ask.{Ask}
use Rattle.script.specs.declared.ask.Ask.TheVariants as ask
use Rattle.script.specs.Asking.{seen_call}
use Rattle.session.specs.Printed.{line_text}
use Rattle.session.specs.Sessions.{After}
use Rattle.session.specs.Owing.{Page, whole, usage_tells, open_owes, open_leaves}

-- where the bytes of a frame lie matters to nothing
owes_seen : (k : Kind) (nodes : ℕ) (h : History) (c : Call) → owes k nodes h (whole (seen_call c)) ≡ owes k nodes h (whole c)
owes_seen k nodes h (Generate n r) = refl
owes_seen k nodes h (Arrive n f) = refl
owes_seen k nodes h (Send n s) = refl
owes_seen k nodes h (Deliver s n) = refl
owes_seen k nodes h (Drop s) = refl
owes_seen k nodes h (Read n room) = refl

deed_seen : (c : Call) → deed_of (seen_call c) ≡ deed_of c
deed_seen (Generate n r) = refl
deed_seen (Arrive n f) = refl
deed_seen (Send n s) = refl
deed_seen (Deliver s n) = refl
deed_seen (Drop s) = refl
deed_seen (Read n room) = refl

-- an accepted OPEN was lent values for its nodes
opened_lent : {S : Type 0} (k : Kind) (form : S → k.Form) (nodes : ℕ) (values : List S) (memory : List ℕ) (first : Rack S) → Opened k form nodes values memory first → nodes ≤ length values
opened_lent k form nodes values memory first o =
    let a = not_refused (ltb nodes 1 || ltb 16 nodes) 1 (with_enough_lent k nodes (length values) (length memory) (Ok tt)) (sym o.accepted) in
    let b = not_refused (ltb (length values) nodes || ltb (length memory) 65536) 2 (unless (overlong k) 3 (Ok tt)) a.1 in
    ltb-false (length values) nodes (or_parts (ltb (length values) nodes) (ltb (length memory) 65536) b.0).0

module _ {S : Type 0} (k : Kind) (laws : Laws k) (form : S → k.Form) (page : Page) (nodes : ℕ) (h : History) where
  kept : (r : Rack S) (a : After k form nodes h r) → Kept k form nodes a.values a.memory a.turns a.told h r
  kept r a = (promise k laws form).kept nodes a.values a.memory a.first a.turns a.told h r a.opened a.ran

  -- what was owed was told, and the rack goes on with the history
  abbrev pub Served : Result Ask LineFault → Told → Rack S → Type 0
  Served a told after = (told ≡ open_owes k page nodes h a) × After k form nodes (open_leaves k page nodes h a) after

  -- an accepted turn goes on with the run, and a refused one leaves all as it was
  gone_on : (r after : Rack S) (t : Turn) → After k form nodes h r → Step k form r t after → (b : Bool) → is_accepted (rack_tells k form r t) ≡ b → After k form nodes (cond b (deed_of t.call ∷ h) h) after
  gone_on r after t a s true e = record {
    values = a.values;
    memory = a.memory;
    first = a.first;
    opened = a.opened;
    turns = a.turns ++ t ∷ [];
    told = a.told ++ rack_tells k form r t ∷ [];
    ran = subst (λ (b : Bool). Ran k form a.first (a.turns ++ t ∷ []) (a.told ++ rack_tells k form r t ∷ []) (deed t.call b ∷ h) after) e (then a.ran t after s);
  }
  gone_on r after t a s false e = subst (After k form nodes h) (sym (refused_stays r after t a s (rack_tells k form r t) refl e)) a
    where
      refused_stays : (r after : Rack S) (t : Turn) → After k form nodes h r → Step k form r t after → (w : Told) → rack_tells k form r t ≡ w → is_accepted w ≡ false → after ≡ r
      refused_stays r after t a s (refused number at) is f = ((kept r a).still t after number at s is).0
      refused_stays r after t a s done is f = absurd (cc)
      refused_stays r after t a s (bytes bs) is f = absurd (cc)

  pub call_served : (r after : Rack S) (c : Call) → After k form nodes h r → Step k form r (whole c) after → Served (Ok (ask.Call (seen_call c))) (rack_tells k form r (whole c)) after
  call_served r after c a s =
      let owed : rack_tells k form r (whole c) ≡ owes k nodes h (whole (seen_call c)) = (kept r a).next (whole c) ∙ sym (owes_seen k nodes h c) in (
        owed,
        subst (λ (d : Deed). After k form nodes (cond (is_accepted (owes k nodes h (whole (seen_call c)))) (d ∷ h) h) after) (sym (deed_seen c))
            (gone_on r after (whole c) a s (is_accepted (owes k nodes h (whole (seen_call c)))) (ap is_accepted owed)),
      )

  -- the page of a node is that of what the history owes it
  page_told : (page_of : List ℕ → List ℕ) (r : Rack S) (n : ℕ) → After k form nodes h r → refused_if (leb r.net.count n) 4 (bytes (page_of (k.encoding (value_form k form r.values n)))) ≡ refused_if (leb nodes n) 4 (bytes (page_of (k.encoding (node_form k h n))))
  page_told page_of r n a =
      let on = kept r a in
      ap (λ (m : ℕ). refused_if (leb m n) 4 (bytes (page_of (k.encoding (value_form k form r.values n))))) on.count
      ∙ ⊎_elim
      (λ t. cond-true (leb nodes n) _ _ t ∙ sym (cond-true (leb nodes n) _ _ t))
      (λ f. ap (λ (x : k.Form). refused_if (leb nodes n) 4 (bytes (page_of (k.encoding x)))) (on.searched n (leb-false nodes n f)))
      (cases_Bool (leb nodes n))

  by_page : (p : Page) (r : Rack S) (n : ℕ) → After k form nodes h r → usage_tells k p r.net.count (value_form k form r.values) n ≡ usage_tells k p nodes (node_form k h) n
  by_page None r n a = refl
  by_page (Some page_of) r n a = page_told page_of r n a

  pub usage_served : (r : Rack S) (n : ℕ) → After k form nodes h r → Served (Ok (ask.Usage n)) (usage_tells k page r.net.count (value_form k form r.values) n) r
  usage_served r n a = (by_page page r n a, a)

-- there are values for all nodes
pub enough : {S : Type 0} (k : Kind) (laws : Laws k) (form : S → k.Form) (nodes : ℕ) (h : History) (r : Rack S) → After k form nodes h r → r.net.count ≤ length r.values
enough k laws form nodes h r a =
    let on = (promise k laws form).kept nodes a.values a.memory a.first a.turns a.told h r a.opened a.ran in
    let lent : nodes ≤ length a.values = opened_lent k form nodes a.values a.memory a.first a.opened in
    let count : r.net.count ≡ nodes = on.count in
    let many : length r.values ≡ length a.values = on.many in
    omega arith

-- what was served was said
module _ {S : Type 0} (k : Kind) (laws : Laws k) (form : S → k.Form) (page : Page) (nodes : ℕ) (h : History) (a : Result Ask LineFault) where
  abbrev pub Said : {E : Type 0} → Result (Unit {0}) E → List ℕ → ℕ → Rack S → Type 0
  Said r text number after = OnOk r (text ≡ line_text number (open_owes k page nodes h a)) × After k form nodes (open_leaves k page nodes h a) after

  pub said_so : {E : Type 0} (r : Result (Unit {0}) E) (text : List ℕ) (number : ℕ) (w : Told) (after : Rack S) → OnOk r (text ≡ line_text number w) → Served k laws form page nodes h a w after → Said r text number after
  said_so (Ok u) text number w after e s = (e ∙ ap (line_text number) s.0, s.1)
  said_so (Err x) text number w after e s = (tt, s.1)

-- what a listener heard where it did not stop
pub heard : {E : Type 0} (r : Result (Unit {0}) E) (A B Q : Type 0) → MatchResult r (λ _. A × B) (λ _. Q) → OnOk r B
heard (Ok u) A B Q e = e.1
heard (Err x) A B Q e = tt

-- what holds of a result that is no error
pub was_ok : {E : Type 0} (r : Result (Unit {0}) E) (P : Type 0) → is_err r ≡ false → OnOk r P → P
was_ok (Ok u) P e p = p
was_ok (Err x) P e p = absurd (cc)
