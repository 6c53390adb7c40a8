-- Bitmaps: the kind with number 1, whose forms are 64 maps of 32 bits, and the estimate from them.
use Rattle.std.specs.Prelude.{◌≡◌, ℕ, zero, suc, ◌+◌, ◌-◌, ◌*◌, ◌/◌, ◌%◌, ◌^◌, ◌<◌, ◌≤◌, Bool, true, false, cond, List, [], ◌∷◌, length, replicate, Ok, Err, sum_by, Result, ◌==◌, bit_or, nat_le, slice_set, refl}
use Rattle.std.specs.List.{list_all}
use Rattle.std.specs.Int.Count.{count_trailing_zeros}
use Rattle.std.proofs.lemmas.Bool.{eqb-true}
use Rattle.readings.specs.Readings.{hash_of, mark_of}
use Rattle.synopsis.specs.declared.fault.DecodeFault.{DecodeFault}
use Rattle.synopsis.specs.Kind.{Kind}
use Rattle.records.specs.Records.{Layout, numbers}
use Rattle.records.specs.RecordFrames.{frame_of, read_records}
use Rattle.bitmaps.specs.declared.maps.Bitmaps.{Bitmaps}

-- the forms: 64 maps
pub record Maps : Type 0 where
  pub each : List ℕ
  pub whole : length each ≡ 64

-- no bit is set
abbrev pub blank : List ℕ
blank = replicate 64 0

-- by the answer of the test of its length
abbrev pub maps_if : (xs : List ℕ) (b : Bool) → (length xs == 64) ≡ b → Maps
maps_if xs true e = record { each = xs; whole = eqb-true (length xs) 64 e }
maps_if xs false e = record { each = blank; whole = refl }

-- a list as 64 maps: no bit is set where it has another length
abbrev pub as_maps : List ℕ → Maps
as_maps xs = maps_if xs (length xs == 64) refl

-- a mark sets one bit: bit rank in map bucket
abbrev pub marked : ℕ × ℕ → List ℕ
marked mark = slice_set blank mark.0 (2 ^ mark.1)

-- map by map, the bits that are set in either
abbrev pub or_maps : List ℕ → List ℕ → List ℕ
or_maps [] ys = []
or_maps (x ∷ xs) [] = []
or_maps (x ∷ xs) (y ∷ ys) = bit_or x y ∷ or_maps xs ys

-- a map is written in four bytes, highest first
abbrev pub map_layout : Layout ℕ
map_layout = numbers 4

-- the form of what was read
abbrev pub formed : Result (List ℕ) DecodeFault → Result Maps DecodeFault
formed (Err e) = Err e
formed (Ok xs) = Ok (as_maps xs)

abbrev pub bitmaps_kind : Kind
bitmaps_kind = record {
  Form = Maps;
  number = 1;
  greatest = 260;
  below = [];
  none = as_maps blank;
  single = λ r. as_maps (marked (mark_of (hash_of r)));
  join = λ x y. as_maps (or_maps x.each y.each);
  encoding = λ x. frame_of 1 map_layout x.each;
  decoding = λ bytes. formed (read_records 1 64 64 map_layout bytes);
}

-- the form of a value is its maps
abbrev pub bitmaps_form : Bitmaps → Maps
bitmaps_form b = as_maps b.maps

-- bit k of a map
abbrev pub bit : ℕ → ℕ → ℕ
bit k m = m / 2 ^ k % 2

-- R of a map: with each of its 32 bits turned, so many zeros end it
abbrev pub lowest_zero : ℕ → ℕ
lowest_zero m = count_trailing_zeros 32 (2 ^ 32 - 1 - m)

-- what R means: it is the position of the lowest zero bit, and the number of bits if there is none
pub record LowestZero (bits m r : ℕ) : Type 0 where
  pub within : r ≤ bits
  pub ones : (k : ℕ) → k < r → bit k m ≡ 1
  pub zeroed : r < bits → bit r m ≡ 0

-- S: the sum of R over the maps in turn
abbrev pub sum_of : List ℕ → ℕ
sum_of maps = sum_by lowest_zero maps

-- the greatest whole number up to n whose eighth power is at most m
unfoldable pub root_within : ℕ → ℕ → ℕ
root_within m zero = 0
root_within m (suc n) = cond (nat_le (suc n ^ 8) m) (suc n) (root_within m n)

-- t for j below 8: the eighth power of 128 is beyond
abbrev pub eighth_root : ℕ → ℕ
eighth_root j = root_within (2 ^ (j + 48)) 127

-- what t means: it is the greatest whole number whose eighth power is at most 2^(j + 48)
pub record EighthRoot (j t : ℕ) : Type 0 where
  pub small : t ^ 8 ≤ 2 ^ (j + 48)
  pub greatest : (n : ℕ) → n ^ 8 ≤ 2 ^ (j + 48) → n ≤ t

-- the estimate from S, with q = S div 8, w = q div 8 and j = q mod 8: t * 2^w * 100000 div 77351
abbrev pub scaled : ℕ → ℕ
scaled sum = eighth_root (sum / 8 % 8) * 2 ^ (sum / 8 / 8) * 100000 / 77351

-- whether no bit is set
abbrev pub none_set : List ℕ → Bool
none_set maps = list_all (λ m. m == 0) maps

-- an estimate of how many different hashes the maps were made of
abbrev pub estimate_of : List ℕ → ℕ
estimate_of maps = cond (none_set maps) 0 (scaled (sum_of maps))
