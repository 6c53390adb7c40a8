-- Forms whose frames read back, and what a kind's answer to bytes tells.
use Rattle.std.proofs.Common.{◌≡◌, ℕ, ◌<◌, ◌≤◌, List, ◌∷◌, length, Ok, Err, Result, MatchResult, refl, sym, ap, ◌∙◌, arith}
use Rattle.std.specs.List.{All, Contains}
use Rattle.std.proofs.lemmas.Result.{MatchResult-at_ok, MatchResult-weaker}
use Rattle.synopsis.specs.declared.fault.DecodeFault.{DecodeFault}
use Rattle.synopsis.specs.Kind.{Kind, Laws, Inside, ArisesIn}

-- two forms whose frames read back are one, if the frames are
pub read_apart : {F : Type 0} (encoding : F → List ℕ) (decoding : List ℕ → Result F DecodeFault) (x y : F) → decoding (encoding x) ≡ Ok x → decoding (encoding y) ≡ Ok y → encoding x ≡ encoding y → x ≡ y
read_apart {F} encoding decoding x y p q e = let same : ◌≡◌ {A = Result F DecodeFault} (Ok x) (Ok y) = sym p ∙ ap decoding e ∙ q in cc

-- a kind's own faults arise in it
pub own_fault : (number : ℕ) (below : List ℕ) (kind : ℕ) → kind ≡ number → Contains (number ∷ below) kind
own_fault number below kind e = (0, omega arith, sym e)

module _ (k : Kind) where
  -- what is read of bytes was written as them, and a fault lies within them and arose in the kind or below it
  abbrev pub Tells : List ℕ → Result k.Form DecodeFault → Type 0
  Tells bytes r = MatchResult r (λ x. All (λ b. b < 256) bytes → k.encoding x ≡ bytes) (λ e. (e.place ≤ length bytes) × Contains (k.number ∷ k.below) e.kind)

  -- a kind that tells so of all bytes keeps three of the laws, and a lawful one tells so
  module _ (tell : (bytes : List ℕ) → Tells bytes (k.decoding bytes)) where
    pub tells_exact : (bytes : List ℕ) → All (λ b. b < 256) bytes → (x : k.Form) → k.decoding bytes ≡ Ok x → k.encoding x ≡ bytes
    tells_exact bytes small x e = MatchResult-at_ok _ _ x e (tell bytes) small

    pub tells_arises : (bytes : List ℕ) → ArisesIn k (k.decoding bytes)
    tells_arises bytes = MatchResult-weaker (k.decoding bytes) (tell bytes) (λ _ _. tt) (λ e h. h.1)

    pub tells_inside : (bytes : List ℕ) → Inside (length bytes) (k.decoding bytes)
    tells_inside bytes = MatchResult-weaker (k.decoding bytes) (tell bytes) (λ _ _. tt) (λ e h. h.0)

  pub laws_tell : Laws k → (bytes : List ℕ) → Tells bytes (k.decoding bytes)
  laws_tell laws bytes = by (k.decoding bytes) (laws.exact bytes) (laws.inside bytes) (laws.arises bytes)
    where
      by : (r : Result k.Form DecodeFault) → (All (λ b. b < 256) bytes → (x : k.Form) → r ≡ Ok x → k.encoding x ≡ bytes) → Inside (length bytes) r → ArisesIn k r → Tells bytes r
      by (Ok x) exact inside arises = λ small. exact small x refl
      by (Err e) exact inside arises = (inside, arises)
