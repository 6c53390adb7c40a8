-- Refusals one after another, and values of which one was fused.
use Rattle.std.proofs.Common.{◌≡◌, ℕ, ◌+◌, ◌-◌, ◌<◌, ◌≤◌, Bool, true, false, List, ◌++◌, map, length, get_or, take, drop, set, replicate, subst, Ok, Result, sym, refl, ap, ◌∙◌, arith}
use borrow.Rule.Slice.PartMut.{put_mid}
use Rattle.std.proofs.lemmas.List.{length-replicate, get_or-replicate, length-set, get_or-set_other, get_or-map, map-set, drop-drop, drop-append-le, take-append-drop, length-take, length-drop, append_assoc}
use Rattle.network.specs.declared.fault.NetworkFault.{NetworkFault}
use Rattle.network.specs.Tables.{FitsSlot, Keeps}
use Rattle.network.specs.Calls.{unless, placed, no_slot, Fused}

-- an accepted answer met no refusal
pub not_refused : (b : Bool) (e : ℕ) (rest : Result (Unit {0}) NetworkFault) → Ok tt ≡ unless b e rest → (b ≡ false) × (Ok tt ≡ rest)
not_refused true e rest q = let z : ◌≡◌ {A = ℕ} 0 1 = cc in absurd (omega arith)
not_refused false e rest q = (refl, q)

-- one value was set, and has the form that is told
pub fused_at : {S F : Type 0} (form : S → F) (join : F → F → F) (none : F) (values : List S) (node : ℕ) (old new : S) (y : F) → node < length values → old ≡ get_or values node old → form new ≡ join (form old) y → Fused form values (set values node new) node (join (get_or (map form values) node none) y)
fused_at form join none values node old new y lt is e =
    let read : get_or (map form values) node none ≡ form old = get_or-map form values node old none lt ∙ ap form (sym is) in
    record {
      long = length-set values node new;
      forms = map-set form values node new ∙ ap (set (map form values) node) (e ∙ ap (λ x. join x y) (sym read));
      others = λ n d apart. get_or-set_other values node n new d apart;
    }

-- a frame was written over the front of a part of the memory
pub placed_is : (memory frame : List ℕ) (at room k : ℕ) → at + room ≤ length memory → length frame ≤ room → k ≡ at + room - at → put_mid at k memory (frame ++ drop (length frame) (take (at + room - at) (drop at memory))) ≡ placed memory at frame
placed_is memory frame at room k within fits e =
    let z : at + room - at ≡ room = omega arith in
    let rest : drop (length frame) (take room (drop at memory)) ++ drop room (drop at memory) ≡ drop (at + length frame) memory =
    sym (drop-append-le (length frame) (take room (drop at memory)) (drop room (drop at memory)) (simp (length-take, length-drop) (omega arith)))
    ∙ ap (drop (length frame)) (take-append-drop room (drop at memory)) ∙ drop-drop (length frame) at memory in
    ap (λ (n : ℕ). put_mid at n memory (frame ++ drop (length frame) (take (at + room - at) (drop at memory)))) (e ∙ z)
    ∙ ap (λ (n : ℕ). put_mid at room memory (frame ++ drop (length frame) (take n (drop at memory)))) z
    ∙ ap (λ (l : List ℕ). take at memory ++ l) (append_assoc frame (drop (length frame) (take room (drop at memory))) (drop room (drop at memory)) ∙ ap (λ (l : List ℕ). frame ++ l) rest)

-- the form of one of the values
pub form_at : {S F : Type 0} (form : S → F) (none : F) (values : List S) (node : ℕ) (old : S) → node < length values → old ≡ get_or values node old → form old ≡ get_or (map form values) node none
form_at form none values node old lt is = sym (get_or-map form values node old none lt ∙ ap form (sym is))

-- a table whose slots are all free
pub free_keeps : (count : ℕ) → count ≤ 16 → Keeps count (replicate 32 no_slot)
free_keeps count few = record {
  few = few;
  fit = λ i d lt. subst FitsSlot (sym (get_or-replicate 32 i no_slot d (let n = length-replicate 32 no_slot in omega arith))) tt;
}
