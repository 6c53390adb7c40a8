-- Frames in the memory, and what a frame put at one slot leaves of the others.
use Rattle.std.proofs.Common.{◌≡◌, ℕ, ◌+◌, ◌-◌, ◌<◌, ◌≤◌, min, List, [], ◌++◌, length, take, drop, None, Some, Option, sym, refl, ap, ◌∙◌, ⊎_elim, arith}
use Rattle.std.proofs.lemmas.List.{append-nil, append_assoc, length-take, length-take-le, length-drop, length-append, take-append-drop, take-append-le, take_at, drop_at, drop-append-le, drop-drop}
use Rattle.std.proofs.lemmas.Bool.{cases_lt}
use Rattle.network.specs.declared.slot.Filled.{Filled}
use Rattle.network.specs.Calls.{slot_of, slot_start, slot_frame, placed}

-- a part that lies within the front does not depend on what follows the front
within_front : (n d at : ℕ) (xs ys : List ℕ) → d + n ≤ at → at ≤ length xs → take n (drop d (take at xs ++ ys)) ≡ take n (drop d (take at xs))
within_front n d at xs ys fits long =
    ap (take n) (drop-append-le d (take at xs) ys (simp length-take (omega arith)))
    ∙ take-append-le n (drop d (take at xs)) ys (simp (length-drop, length-take) (omega arith))

-- so a part before a place does not change with what stands from there on
part_before : (n d at : ℕ) (xs ys : List ℕ) → d + n ≤ at → at ≤ length xs → take n (drop d (take at xs ++ ys)) ≡ take n (drop d xs)
part_before n d at xs ys fits long =
    within_front n d at xs ys fits long
    ∙ sym (within_front n d at xs (drop at xs) fits long)
    ∙ ap (λ (l : List ℕ). take n (drop d l)) (take-append-drop at xs)

-- what stands behind a frame is as it was
behind_frame : (at : ℕ) (xs frame : List ℕ) → at ≤ length xs → drop (at + length frame) (placed xs at frame) ≡ drop (at + length frame) xs
behind_frame at xs frame long =
    ap (drop (at + length frame)) (sym (append_assoc (take at xs) frame (drop (at + length frame) xs)))
    ∙ drop_at (take at xs ++ frame) (drop (at + length frame) xs) (at + length frame) (length-append (take at xs) frame ∙ ap (λ (n : ℕ). n + length frame) (length-take-le at xs long))

-- and so is each part behind it
part_behind : (d at : ℕ) (xs frame : List ℕ) → at + length frame ≤ d → at ≤ length xs → drop d (placed xs at frame) ≡ drop d xs
part_behind d at xs frame past long =
    let e : at + length frame + (d - (at + length frame)) ≡ d = omega arith in
    ap (λ (n : ℕ). drop n (placed xs at frame)) (sym e)
    ∙ sym (drop-drop (d - (at + length frame)) (at + length frame) (placed xs at frame))
    ∙ ap (drop (d - (at + length frame))) (behind_frame at xs frame long)
    ∙ drop-drop (d - (at + length frame)) (at + length frame) xs
    ∙ ap (λ (n : ℕ). drop n xs) e

-- a frame that fits does not change how long the memory is
pub length_placed : (at : ℕ) (xs frame : List ℕ) → at + length frame ≤ length xs → length (placed xs at frame) ≡ length xs
length_placed at xs frame fits = simp (length-append, length-take, length-drop) (omega arith)

-- the memory's front holds the frames that the memory holds
pub front_frame : (memory : List ℕ) (m s : ℕ) (slot : Option Filled) → s < 32 → 65536 ≤ m → m ≤ length memory → slot_frame (take m memory) s slot ≡ slot_frame memory s slot
front_frame memory m s None lt enough long = refl
front_frame memory m s (Some frame) lt enough long =
    let fits : slot_start s + min frame.length 2048 ≤ m = omega arith in
    ap (λ (xs : List ℕ). take (min frame.length 2048) (drop (slot_start s) xs)) (sym (append-nil (take m memory)))
    ∙ part_before (min frame.length 2048) (slot_start s) m memory [] fits long

-- a frame was put at slot r: there it lies
pub frame_here : (memory frame : List ℕ) (r n : ℕ) → r < 32 → 65536 ≤ length memory → length frame ≤ 2048 → slot_frame (placed memory (slot_start r) frame) r (slot_of n (length frame)) ≡ frame
frame_here memory frame r n lt long short =
    let all : min (length frame) 2048 ≡ length frame = omega arith in
    ap (λ (i : ℕ). take i (drop (slot_start r) (placed memory (slot_start r) frame))) all
    ∙ ap (take (length frame)) (drop_at (take (slot_start r) memory) (frame ++ drop (slot_start r + length frame) memory) (slot_start r) (length-take-le (slot_start r) memory (omega arith)))
    ∙ take_at frame (drop (slot_start r + length frame) memory) (length frame) refl

-- and the other slots have what they had
pub frame_else : (memory frame : List ℕ) (r s : ℕ) (slot : Option Filled) → (s ≡ r → ⊥) → r < 32 → 65536 ≤ length memory → length frame ≤ 2048 → slot_frame (placed memory (slot_start r) frame) s slot ≡ slot_frame memory s slot
frame_else memory frame r s None apart lt long short = refl
frame_else memory frame r s (Some lying) apart lt long short =
    ⊎_elim
    (λ below. part_before (min lying.length 2048) (slot_start s) (slot_start r) memory (frame ++ drop (slot_start r + length frame) memory) (omega arith) (omega arith))
    (λ le. let above : r < s = omega arith in ap (take (min lying.length 2048)) (part_behind (slot_start s) (slot_start r) memory frame (omega arith) (omega arith)))
    (cases_lt s r)
