-- A page that is written into room for any.
use Rattle.std.proofs.Common.{◌≡◌, ℕ, ◌≤◌, List, length, take, drop, Ok, Err, Result, refl, ltb, false, sym, ap, ◌∙◌}
use Rattle.std.proofs.lemmas.Bool.{cond-false, le-ltb}
use Rattle.std.proofs.lemmas.List.{take_at}
use Rattle.usage.specs.declared.fault.PageFault.{PageFault}
use Rattle.usage.specs.Pages.{pile_kind, page_of, page_by, least_room, usage_answer, usage_after}

module _ (x : pile_kind.Form) (room : List ℕ) (long : least_room ≤ length room) where
  enough : ltb (length room) least_room ≡ false
  enough = le-ltb (length room) least_room long

  pub no_fault : (e : PageFault) → ◌≡◌ {A = Result ℕ PageFault} (Err e) (usage_answer x (length room)) → ⊥
  no_fault e q = let told : ◌≡◌ {A = Result ℕ PageFault} (Err e) (Ok (length (page_of x))) = q ∙ cond-false _ _ _ enough in absurd (cc)

  -- the bytes before the end are the page that the encoding names
  pub page_there : (end : ℕ) (new : List ℕ) → ◌≡◌ {A = Result ℕ PageFault} (Ok end) (usage_answer x (length room)) → new ≡ usage_after x room → page_by (pile_kind.encoding x) ≡ page_of x → take end new ≡ page_by (pile_kind.encoding x)
  page_there end new q after named =
      let told : ◌≡◌ {A = Result ℕ PageFault} (Ok end) (Ok (length (page_of x))) = q ∙ cond-false _ _ _ enough in
      let e : end ≡ length (page_of x) = cc in
      ap (λ (n : ℕ). take n new) e ∙ ap (take (length (page_of x))) (after ∙ cond-false _ _ _ enough) ∙ take_at (page_of x) (drop (length (page_of x)) room) (length (page_of x)) refl ∙ sym named
