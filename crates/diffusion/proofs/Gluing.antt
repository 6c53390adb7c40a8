-- A turn, from the call that it makes with its front part of the values and of the memory.
use Rattle.std.proofs.Common.{◌≡◌, ℕ, ◌-◌, ◌≤◌, min, Bool, true, false, cond, List, ◌++◌, map, length, take, drop, sym, refl, ap, ◌∙◌, arith, ◌<◌, get_or, None, Some, Option, subst, ⊎_elim}
use borrow.Rule.Slice.PartMut.{post_of}
use Rattle.std.proofs.lemmas.List.{take-map, drop-map, map-append, length-map, length-take, take-append-drop, get_or_append_left, get_or-append_right}
use Rattle.std.proofs.lemmas.Bool.{cases_lt}
use Rattle.synopsis.specs.Kind.{Kind, Laws}
use Rattle.histories.specs.declared.Turn.{Turn}
use Rattle.network.specs.Tables.{Table}
use Rattle.diffusion.specs.Turns.{Told, is_accepted, written_by, SameBut, State, state_of, call_tells, call_leaves, call_after, turn_tells, turn_leaves}
use Rattle.diffusion.proofs.Fronts.{front, whole, front_same, front_tells, front_leaves}

-- two front parts that agree at a place agree there before the same rest
same_before : {S : Type 0} (xs ys zs : List S) (i : ℕ) (d : S) → length xs ≡ length ys → get_or xs i d ≡ get_or ys i d → get_or (xs ++ zs) i d ≡ get_or (ys ++ zs) i d
same_before xs ys zs i d long e =
    ⊎_elim
    (λ lt. let here : i < length ys = omega arith in get_or_append_left xs zs d i lt ∙ e ∙ sym (get_or_append_left ys zs d i here))
    (λ ge. get_or-append_right xs zs (length xs) i d refl ge ∙ sym (get_or-append_right ys zs (length xs) i d (sym long) ge))
    (cases_lt i (length xs))

-- so what a call leaves alone in a front part stays in the whole
same_whole : {S : Type 0} (o : Option ℕ) (v : ℕ) (values after : List S) → length after ≡ length (take (v - 0) values) → SameBut o (take (v - 0) values) after → SameBut o values (after ++ drop (v - 0) values)
same_whole None v values after long e = ap (λ l. l ++ drop (v - 0) values) e ∙ take-append-drop (v - 0) values
same_whole (Some n) v values after long e = λ i d apart.
    same_before after (take (v - 0) values) (drop (v - 0) values) i d long (e i d apart) ∙ ap (λ l. get_or l i d) (take-append-drop (v - 0) values)

module _ {S : Type 0} (k : Kind) (laws : Laws k) (form : S → k.Form) (net : Table) (values : List S) (memory : List ℕ) (t : Turn) (v m : ℕ) (v_is : v ≡ min t.values (length values)) (m_is : m ≡ min t.bytes (length memory)) where
  abbrev st : State k
  st = state_of k form net values memory

  abbrev part : State k
  part = state_of k form net (take (v - 0) values) (take (m - 0) memory)

  v_forms : v ≡ min t.values (length (map form values))
  v_forms = v_is ∙ ap (min t.values) (sym (length-map values form))

  v_le : v ≤ length (map form values)
  v_le = let e = v_forms in omega arith

  m_le : m ≤ length memory
  m_le = let e = m_is in omega arith

  part_front : part ≡ front k laws st v m v_le m_le
  part_front =
      let z : v - 0 ≡ v = omega arith in
      let y : m - 0 ≡ m = omega arith in
      let f : map form (take (v - 0) values) ≡ take v (map form values) = ap (λ (i : ℕ). map form (take i values)) z ∙ sym (take-map form v values) in
      let g : take (m - 0) memory ≡ take m memory = ap (λ (i : ℕ). take i memory) y in
      λ i. record { net = net; forms = f i; memory = g i }

  v_part : length (take (v - 0) values) ≡ v
  v_part = let e = v_is in simp length-take (omega arith)

  m_part : length (take (m - 0) memory) ≡ m
  m_part = let e = m_is in simp length-take (omega arith)

  -- the call tells what the turn does
  pub glued_tells : (told : Told) → told ≡ call_tells k part (length (take (v - 0) values)) (length (take (m - 0) memory)) t.call → told ≡ turn_tells k st t
  glued_tells told e =
      e
      ∙ ap (λ (n : ℕ). call_tells k part n (length (take (m - 0) memory)) t.call) v_part
      ∙ ap (λ (n : ℕ). call_tells k part v n t.call) m_part
      ∙ ap (λ (s : State k). call_tells k s v m t.call) part_front
      ∙ front_tells k laws st v m v_le m_le t.call
      ∙ ap (λ (n : ℕ). call_tells k st n m t.call) v_forms
      ∙ ap (λ (n : ℕ). call_tells k st (min t.values (length (map form values))) n t.call) m_is

  by_accepted : (told : Told) → told ≡ call_tells k st v m t.call → (b : Bool) → is_accepted told ≡ b → whole k laws st v m v_le m_le (call_after k (front k laws st v m v_le m_le) told t.call) ≡ cond (is_accepted told) (call_leaves k st t.call) st
  by_accepted told e true q =
      ap (λ (c : Bool). whole k laws st v m v_le m_le (cond c (call_leaves k (front k laws st v m v_le m_le) t.call) (front k laws st v m v_le m_le))) q
      ∙ front_leaves k laws st v m v_le m_le t.call (sym (ap is_accepted e) ∙ q)
      ∙ sym (ap (λ (c : Bool). cond c (call_leaves k st t.call) st) q)
  by_accepted told e false q =
      ap (λ (c : Bool). whole k laws st v m v_le m_le (cond c (call_leaves k (front k laws st v m v_le m_le) t.call) (front k laws st v m v_le m_le))) q
      ∙ front_same k laws st v m v_le m_le
      ∙ sym (ap (λ (c : Bool). cond c (call_leaves k st t.call) st) q)

  -- and leaves what the turn does
  pub glued_leaves : (told : Told) (net' : Table) (values' : List S) (memory' : List ℕ) → told ≡ call_tells k part (length (take (v - 0) values)) (length (take (m - 0) memory)) t.call → state_of k form net' values' memory' ≡ call_after k part told t.call → state_of k form net' (values' ++ post_of 0 (v - 0) values) (memory' ++ post_of 0 (m - 0) memory) ≡ turn_leaves k st t
  glued_leaves told net' values' memory' e q =
      let z : v - 0 ≡ v = omega arith in
      let y : m - 0 ≡ m = omega arith in
      let turn = glued_tells told e in
      let here : call_tells k st v m t.call ≡ turn_tells k st t = ap (λ (n : ℕ). call_tells k st n m t.call) v_forms ∙ ap (λ (n : ℕ). call_tells k st (min t.values (length (map form values))) n t.call) m_is in
      let f : map form (values' ++ drop (v - 0) values) ≡ map form values' ++ drop v (map form values) =
      map-append form values' (drop (v - 0) values) ∙ ap (λ (i : ℕ). map form values' ++ map form (drop i values)) z ∙ ap (λ (l : List k.Form). map form values' ++ l) (sym (drop-map form v values)) in
      let g : memory' ++ drop (m - 0) memory ≡ memory' ++ drop m memory = ap (λ (i : ℕ). memory' ++ drop i memory) y in
      (λ i. record { net = net'; forms = f i; memory = g i })
      ∙ ap (whole k laws st v m v_le m_le) (q ∙ ap (λ (s : State k). call_after k s told t.call) part_front)
      ∙ by_accepted told (turn ∙ sym here) (is_accepted told) refl
      ∙ ap (λ (w : Told). cond (is_accepted w) (call_leaves k st t.call) st) turn

  -- and writes no other value
  pub glued_others : (told : Told) (values' : List S) → told ≡ call_tells k part (length (take (v - 0) values)) (length (take (m - 0) memory)) t.call → length values' ≡ length (take (v - 0) values) → SameBut (written_by told t.call) (take (v - 0) values) values' → SameBut (written_by (turn_tells k st t) t.call) values (values' ++ post_of 0 (v - 0) values)
  glued_others told values' e long same = subst (λ (w : Told). SameBut (written_by w t.call) values (values' ++ drop (v - 0) values)) (glued_tells told e) (same_whole (written_by told t.call) v values values' long same)
