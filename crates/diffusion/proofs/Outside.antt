-- What no turn touches: values beyond the nodes, and memory outside the slots that were sent into.
use Rattle.std.proofs.Common.{◌≡◌, ℕ, ◌+◌, ◌-◌, ◌<◌, ◌≤◌, min, Bool, true, false, cond, ◌⊎◌, List, ◌∷◌, ◌++◌, length, get_or, take, drop, None, Some, Option, inl, inr, suc, refl, sym, ap, ◌∙◌, subst, ⊎_elim, arith}
use Rattle.std.proofs.lemmas.List.{length-set, length-map, length-drop, length-take-le, get_or-take, get_or-drop, get_or_append_left, get_or-append_right, same_lists}
use Rattle.std.proofs.lemmas.Bool.{ltb-false}
use Rattle.synopsis.specs.Kind.{Kind, Laws}
use Rattle.histories.specs.declared.Call.{Call}
use Rattle.histories.specs.declared.Call.TheVariants.{Generate, Arrive, Send, Deliver, Drop, Read}
use Rattle.histories.specs.declared.Turn.{Turn}
use Rattle.histories.specs.Deeds.{History, Deed, deed}
use Rattle.histories.specs.Paths.{newest, before}
use Rattle.network.specs.Calls.{slot_start, placed}
use Rattle.diffusion.specs.Turns.{Told, is_accepted, State, form_of, call_tells, written_node, if_accepted, written_by, SameBut, call_leaves}
use Rattle.diffusion.specs.Runs.{Rack, formed, rack_tells, Opened, Ran, begun, then}
use Rattle.diffusion.specs.Promise.{Outside, SameOutside}
use Rattle.diffusion.proofs.Lying.{length_placed}
use Rattle.diffusion.proofs.Fronts.{ready_on, node_on, slot_on}

-- a node is below a count, if there is one
abbrev Below : ℕ → Option ℕ → Type 0
Below count None = Unit {0}
Below count (Some n) = n < count

same_beyond : {S : Type 0} (o : Option ℕ) (count : ℕ) (old new : List S) → length new ≡ length old → Below count o → SameBut o old new → drop count new ≡ drop count old
same_beyond None count old new long below e = ap (drop count) e
same_beyond (Some n) count old new long below e =
    same_lists (drop count new) (drop count old) (length-drop count new ∙ ap (λ (m : ℕ). m - count) long ∙ sym (length-drop count old))
    (λ i d lt. get_or-drop count new i d ∙ e (count + i) d (λ q. omega arith) ∙ sym (get_or-drop count old i d))

-- a frame leaves each byte before it and behind it
apart_from_frame : (xs frame : List ℕ) (at place : ℕ) → at + length frame ≤ length xs → (place < at) ⊎ (at + length frame ≤ place) → get_or (placed xs at frame) place 0 ≡ get_or xs place 0
apart_from_frame xs frame at place fits =
    let to = at + length frame in
    let front : length (take at xs) ≡ at = length-take-le at xs (omega arith) in
    ⊎_elim
    (λ lt.
    let here : place < length (take at xs) = omega (arith, lt) in
    get_or_append_left (take at xs) (frame ++ drop to xs) 0 place here ∙ get_or-take at xs place 0 lt)
    (λ ge.
    let past : to ≤ place = ge in
    let back : to + (place - at - length frame) ≡ place = omega arith in
    get_or-append_right (take at xs) (frame ++ drop to xs) at place 0 front (omega arith)
    ∙ get_or-append_right frame (drop to xs) (length frame) (place - at) 0 refl (omega arith)
    ∙ get_or-drop to xs (place - at - length frame) 0
    ∙ ap (λ (i : ℕ). get_or xs i 0) back)

module _ (k : Kind) (laws : Laws k) (st : State k) (v m : ℕ) (room : m ≤ length st.memory) where
  -- an accepted call writes a node of the network
  call_below : (c : Call) → is_accepted (call_tells k st v m c) ≡ true → Below st.net.count (written_node c)
  call_below (Generate n r) q = let a = ready_on k st v m _ q in (node_on k st v m n _ a.3).0
  call_below (Arrive n frame) q = let a = ready_on k st v m _ q in (node_on k st v m n _ a.3).0
  call_below (Send n s) q = tt
  call_below (Deliver s n) q = let a = ready_on k st v m _ q in let b = slot_on k st v m s _ a.3 in (node_on k st v m n _ b.1).0
  call_below (Drop s) q = tt
  call_below (Read n wanted) q = tt

  -- and leaves these as they were
  pub record Stays (d : Deed) (after : State k) : Type 0 where
    pub count : after.net.count ≡ st.net.count
    pub many : length after.forms ≡ length st.forms
    pub long : length after.memory ≡ length st.memory
    pub bytes : (h : History) (place : ℕ) → Outside (d ∷ h) place → get_or after.memory place 0 ≡ get_or st.memory place 0

  call_stays : (c : Call) → is_accepted (call_tells k st v m c) ≡ true → Stays (deed c true) (call_leaves k st c)
  call_stays (Generate n r) q = record { count = refl; many = length-set _ _ _; long = refl; bytes = λ h place o. refl }
  call_stays (Arrive n frame) q = record { count = refl; many = length-set _ _ _; long = refl; bytes = λ h place o. refl }
  call_stays (Send n s) q =
      let a = ready_on k st v m _ q in
      let b = node_on k st v m n _ a.3 in
      let c = slot_on k st v m s _ b.1 in
      let bs = k.encoding (form_of k st n) in
      let short = laws.most a.2 (form_of k st n) in
      let small : k.greatest ≤ 2048 = ltb-false 2048 k.greatest a.2 in
      let slot : s < 32 = c.0 in
      let fits : slot_start s + length bs ≤ length st.memory = omega arith in
      record {
        count = refl;
        many = refl;
        long = length_placed (slot_start s) st.memory bs fits;
        bytes = λ h place o.
            let apart : (place < slot_start s) ⊎ (slot_start s + length bs ≤ place) =
            ⊎_elim (λ lt. inl lt) (λ ge. let past : slot_start s + 2048 ≤ place = ge in inr (omega arith)) (o s n (suc (length h)) slot newest) in
            apart_from_frame st.memory bs (slot_start s) place fits apart;
      }
  call_stays (Deliver s n) q = record { count = refl; many = length-set _ _ _; long = refl; bytes = λ h place o. refl }
  call_stays (Drop s) q = record { count = refl; many = refl; long = refl; bytes = λ h place o. refl }
  call_stays (Read n wanted) q = record { count = refl; many = refl; long = refl; bytes = λ h place o. refl }

  by_accepted : (c : Call) (b : Bool) → is_accepted (call_tells k st v m c) ≡ b → Below st.net.count (if_accepted b (written_node c)) × Stays (deed c b) (cond b (call_leaves k st c) st)
  by_accepted c true q = (call_below c q, call_stays c q)
  by_accepted c false q = (tt, record { count = refl; many = refl; long = refl; bytes = λ h place o. refl })

module _ {S : Type 0} (k : Kind) (laws : Laws k) (form : S → k.Form) (first : Rack S) where
  pub record Alone (h : History) (last : Rack S) : Type 0 where
    pub count : last.net.count ≡ first.net.count
    pub many : length last.values ≡ length first.values
    pub values : drop first.net.count last.values ≡ drop first.net.count first.values
    pub outside : SameOutside h first.memory last.memory

  alone : {ts : List Turn} {ws : List Told} {h : History} {last : Rack S} → Ran k form first ts ws h last → Alone h last
  alone begun = record { count = refl; many = refl; values = refl; outside = record { long = refl; bytes = λ place o. refl } }
  alone (then {h = h} {r = r} ran t after s) =
      let on = alone ran in
      let f = formed k form r in
      let v = min t.values (length f.forms) in
      let m = min t.bytes (length f.memory) in
      let both = by_accepted k laws f v m (omega arith) t.call (is_accepted (rack_tells k form r t)) refl in
      let many : length after.values ≡ length r.values = sym (length-map after.values form) ∙ ap (λ (x : State k). length x.forms) s.leaves ∙ both.1.many ∙ length-map r.values form in
      record {
        count = ap (λ (x : State k). x.net.count) s.leaves ∙ both.1.count ∙ on.count;
        many = many ∙ on.many;
        values = subst (λ (n : ℕ). drop n after.values ≡ drop n r.values) on.count (same_beyond (written_by (rack_tells k form r t) t.call) r.net.count r.values after.values many both.0 s.others) ∙ on.values;
        outside = record {
          long = ap (λ (x : State k). length x.memory) s.leaves ∙ both.1.long ∙ on.outside.long;
          bytes = λ place o.
              ap (λ (x : State k). get_or x.memory place 0) s.leaves
              ∙ both.1.bytes h place o
              ∙ on.outside.bytes place (λ slot node turn lt did. o slot node turn lt (before did));
        };
      }

  pub beyond : (nodes : ℕ) (values : List S) (memory : List ℕ) {ts : List Turn} {ws : List Told} {h : History} {last : Rack S} → Opened k form nodes values memory first → Ran k form first ts ws h last → (length last.values ≡ length values) × (drop nodes last.values ≡ drop nodes values) × SameOutside h memory last.memory
  beyond nodes values memory {h = h} {last = last} o ran =
      let on = alone ran in
      let count : first.net.count ≡ nodes = ap (λ net. net.count) o.table in
      (on.many ∙ o.empty.long, subst (λ (n : ℕ). drop n last.values ≡ drop n first.values) count on.values ∙ o.empty.others, subst (λ (l : List ℕ). SameOutside h l last.memory) o.same on.outside)
