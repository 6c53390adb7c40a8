-- A turn that is brought a front part of the values and of the memory does what it would do with all of them.
use Rattle.std.proofs.Common.{◌≡◌, ℕ, ◌+◌, ◌<◌, ◌≤◌, Bool, true, false, ◌||◌, T, ltb, leb, List, ◌++◌, length, get_or, take, drop, set, None, Ok, Result, sym, refl, ap, ◌∙◌, subst, ⊎_elim, arith}
use Rattle.std.proofs.lemmas.List.{take-append-drop, get_or-take, set-append_left, length-take, take-take, drop-append-le, append_assoc}
use Rattle.std.proofs.lemmas.Bool.{cases_lt, le-leb, leb-false, ltb-false, or_parts}
use Rattle.synopsis.specs.Kind.{Kind, Laws, overlong}
use Rattle.histories.specs.declared.Call.{Call}
use Rattle.histories.specs.declared.Call.TheVariants.{Generate, Arrive, Send, Deliver, Drop, Read}
use Rattle.histories.specs.Folds.{read_as}
use Rattle.network.specs.declared.fault.NetworkFault.{NetworkFault}
use Rattle.network.specs.Calls.{unless, ready, no_node, beyond, slot_start, no_slot, placed, slot_of, switched, read_answer, deliver_answer}
use Rattle.diffusion.proofs.Lying.{front_frame}
use Rattle.diffusion.specs.Turns.{Told, is_accepted, plainly, with_bytes, State, form_of, call_tells, fused, call_leaves}

-- an accepted answer met none of the refusals
pub plain_on : (b : Bool) (e : ℕ) (rest : Result (Unit {0}) NetworkFault) → is_accepted (plainly (unless b e rest)) ≡ true → (b ≡ false) × (is_accepted (plainly rest) ≡ true)
plain_on true e rest q = absurd (subst T (sym q) tt)
plain_on false e rest q = (refl, q)

module _ (k : Kind) (st : State k) (v m : ℕ) where
  pub ready_on : (rest : Result (Unit {0}) NetworkFault) → is_accepted (plainly (ready k st.net v m rest)) ≡ true → (st.net.count ≤ v) × (65536 ≤ m) × (overlong k ≡ false) × (is_accepted (plainly rest) ≡ true)
  ready_on rest q =
      let a = plain_on _ 2 _ q in
      let b = plain_on _ 3 _ a.1 in
      let c = or_parts (ltb v st.net.count) (ltb m 65536) a.0 in
      (ltb-false v st.net.count c.0, ltb-false m 65536 c.1, b.0, b.1)

  pub node_on : (n : ℕ) (rest : Result (Unit {0}) NetworkFault) → is_accepted (plainly (no_node k st.net v m n rest)) ≡ true → (n < st.net.count) × (is_accepted (plainly rest) ≡ true)
  node_on n rest q = let a = plain_on _ 4 _ q in (leb-false st.net.count n a.0, a.1)

  pub slot_on : (s : ℕ) (rest : Result (Unit {0}) NetworkFault) → is_accepted (plainly (beyond k st.net v m s rest)) ≡ true → (s < 32) × (is_accepted (plainly rest) ≡ true)
  slot_on s rest q = let a = plain_on _ 5 _ q in (leb-false 32 s a.0, a.1)

-- the front of a list, set or read, and then the rest
pub front_set : {A : Type 0} (xs : List A) (v n : ℕ) (x : A) → n < v → v ≤ length xs → set (take v xs) n x ++ drop v xs ≡ set xs n x
front_set xs v n x lt le =
    let within : n < length (take v xs) = simp length-take (omega arith) in
    sym (set-append_left (take v xs) (drop v xs) n x within) ∙ ap (λ l. set l n x) (take-append-drop v xs)

front_rest : (j m : ℕ) (xs : List ℕ) → j ≤ m → m ≤ length xs → drop j (take m xs) ++ drop m xs ≡ drop j xs
front_rest j m xs le within =
    let short : j ≤ length (take m xs) = simp length-take (omega arith) in
    sym (drop-append-le j (take m xs) (drop m xs) short) ∙ ap (drop j) (take-append-drop m xs)

pub front_placed : (memory frame : List ℕ) (m at : ℕ) → at + length frame ≤ m → m ≤ length memory → placed (take m memory) at frame ++ drop m memory ≡ placed memory at frame
front_placed memory frame m at le within =
    let low : at ≤ m = omega arith in
    append_assoc (take at (take m memory)) (frame ++ drop (at + length frame) (take m memory)) (drop m memory)
    ∙ ap (λ (l : List ℕ). take at (take m memory) ++ l) (append_assoc frame (drop (at + length frame) (take m memory)) (drop m memory))
    ∙ ap (λ (l : List ℕ). take at (take m memory) ++ (frame ++ l)) (front_rest (at + length frame) m memory le within)
    ∙ ap (λ (l : List ℕ). l ++ (frame ++ drop (at + length frame) memory)) (take-take at m memory low)

module _ (k : Kind) (laws : Laws k) (st : State k) (v m : ℕ) (values : v ≤ length st.forms) (room : m ≤ length st.memory) where
  -- what the turn is brought
  abbrev pub front : State k
  front = record { net = st.net; forms = take v st.forms; memory = take m st.memory }

  -- what it left, with the rest
  abbrev pub whole : State k → State k
  whole after = record { net = after.net; forms = after.forms ++ drop v st.forms; memory = after.memory ++ drop m st.memory }

  pub front_same : whole front ≡ st
  front_same = λ i. record { net = st.net; forms = take-append-drop v st.forms i; memory = take-append-drop m st.memory i }

  front_form : (n : ℕ) → n < v → form_of k front n ≡ form_of k st n
  front_form n lt = get_or-take v st.forms n k.none lt

  -- a READ beyond the front is refused whatever is there
  read_beyond : (n room : ℕ) (x y : k.Form) → v ≤ n → with_bytes (k.encoding x) (read_answer k st.net v m n x room) ≡ with_bytes (k.encoding y) (read_answer k st.net v m n y room)
  read_beyond n room x y le = by (ltb v st.net.count) (ltb m 65536) (overlong k) (leb st.net.count n) (λ f. le-leb st.net.count n (let low = ltb-false v st.net.count f in omega arith)) refl
    where
      answer : k.Form → (a b c d : Bool) → Told
      answer z a b c d = with_bytes (k.encoding z) (unless (a || b) 2 (unless c 3 (unless d 4 (unless (ltb room (length (k.encoding z))) 8 (Ok (length (k.encoding z)))))))

      by : (a b c d : Bool) → (a ≡ false → d ≡ true) → ltb v st.net.count ≡ a → answer x a b c d ≡ answer y a b c d
      by true b c d f e = refl
      by false true c d f e = refl
      by false false true d f e = refl
      by false false false true f e = refl
      by false false false false f e = absurd (subst T (sym (f refl)) tt)

  pub front_tells : (call : Call) → call_tells k front v m call ≡ call_tells k st v m call
  front_tells (Generate n r) = refl
  front_tells (Arrive n frame) = refl
  front_tells (Send n s) = refl
  front_tells (Deliver s n) =
      let le : m ≤ m = omega arith in
      ap (λ (l : List ℕ). plainly (deliver_answer k st.net v m l s n)) (take-take m m st.memory le)
  front_tells (Drop s) = refl
  front_tells (Read n wanted) =
      ⊎_elim
      (λ lt. ap (λ (x : k.Form). with_bytes (k.encoding x) (read_answer k st.net v m n x wanted)) (front_form n lt))
      (λ le. read_beyond n wanted (form_of k front n) (form_of k st n) le)
      (cases_lt n v)

  fused_front : (n : ℕ) (x : k.Form) → n < v → whole (fused k front n x) ≡ fused k st n x
  fused_front n x lt =
      let e : set (take v st.forms) n (k.join (form_of k front n) x) ++ drop v st.forms ≡ set st.forms n (k.join (form_of k st n) x) =
      front_set st.forms v n (k.join (form_of k front n) x) lt values ∙ ap (λ (y : k.Form). set st.forms n (k.join y x)) (front_form n lt) in
      λ i. record { net = st.net; forms = e i; memory = take-append-drop m st.memory i }

  -- an accepted call leaves the same
  pub front_leaves : (call : Call) → is_accepted (call_tells k st v m call) ≡ true → whole (call_leaves k front call) ≡ call_leaves k st call
  front_leaves (Generate n r) q =
      let a = ready_on k st v m _ q in
      let b = node_on k st v m n _ a.3 in
      fused_front n (k.single r) (omega arith)
  front_leaves (Arrive n frame) q =
      let a = ready_on k st v m _ q in
      let b = node_on k st v m n _ a.3 in
      fused_front n _ (omega arith)
  front_leaves (Send n s) q =
      let a = ready_on k st v m _ q in
      let b = node_on k st v m n _ a.3 in
      let c = slot_on k st v m s _ b.1 in
      let same = front_form n (omega arith) in
      let short = laws.most a.2 (form_of k st n) in
      let small : k.greatest ≤ 2048 = ltb-false 2048 k.greatest a.2 in
      let slot : s < 32 = c.0 in
      let fits : slot_start s + length (k.encoding (form_of k st n)) ≤ m = omega arith in
      ap (λ (x : k.Form). record { net = switched st.net s (slot_of n (length (k.encoding x))); forms = take v st.forms ++ drop v st.forms; memory = placed (take m st.memory) (slot_start s) (k.encoding x) ++ drop m st.memory }) same
      ∙ (λ i. record { net = switched st.net s (slot_of n (length (k.encoding (form_of k st n)))); forms = take-append-drop v st.forms i; memory = front_placed st.memory (k.encoding (form_of k st n)) m (slot_start s) fits room i })
  front_leaves (Deliver s n) q =
      let a = ready_on k st v m _ q in
      let c = slot_on k st v m s _ a.3 in
      let b = node_on k st v m n _ c.1 in
      ap (λ (l : List ℕ). whole (fused k front n (read_as k (k.decoding l)))) (front_frame st.memory m s (get_or st.net.slots s no_slot) c.0 a.1 room) ∙ fused_front n _ (omega arith)
  front_leaves (Drop s) q = λ i. record { net = switched st.net s None; forms = take-append-drop v st.forms i; memory = take-append-drop m st.memory i }
  front_leaves (Read n wanted) q = front_same
