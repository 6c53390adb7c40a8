-- Records of a fixed width, one behind the other.
use Rattle.std.specs.Prelude.{◌≡◌, ℕ, zero, suc, ◌<◌, cond, List, [], ◌∷◌, length, take, drop, All, ◌==◌}
use Rattle.frames.specs.Numbers.{in_bytes, from_bytes}

-- how a record is written, and which record so many bytes are
pub record Layout (E : Type 0) : Type 0 where
  pub width : ℕ
  pub written : E → List ℕ
  pub read : List ℕ → E

-- a record has its width and reads back as itself, and bytes of that width are written again as they were read
pub record Readable {E : Type 0} (l : Layout E) : Type 0 where
  pub sized : (x : E) → length (l.written x) ≡ l.width
  pub back : (x : E) → l.read (l.written x) ≡ x
  pub whole : (bytes : List ℕ) → length bytes ≡ l.width → All (λ b. b < 256) bytes → l.written (l.read bytes) ≡ bytes

-- a record over bytes of its width; others stay
abbrev pub put_over : {E : Type 0} → Layout E → E → List ℕ → List ℕ
put_over l x bytes = cond (length bytes == l.width) (l.written x) bytes

-- bytes of a record's width, and none in the place of others
abbrev pub of_width : {E : Type 0} → Layout E → List ℕ → List ℕ
of_width l bytes = cond (length bytes == l.width) bytes []

-- numbers in so many bytes, highest first
abbrev pub numbers : ℕ → Layout ℕ
numbers w = record { width = w; written = in_bytes w; read = from_bytes }

-- the first n records of some bytes
abbrev pub cut : {E : Type 0} → Layout E → ℕ → List ℕ → List E
cut l zero bytes = []
cut l (suc n) bytes = l.read (take l.width bytes) ∷ cut l n (drop l.width bytes)
