-- What a reading's hash is, and the mark of a hash.
use Rattle.std.specs.Prelude.{ℕ, ◌+◌, ◌*◌, ◌/◌, ◌%◌, ◌^◌, cond, ◌||◌, eqb, ltb}
use Rattle.std.specs.Int.Bits.{bit_xor}
use Rattle.std.specs.Int.Count.{count_trailing_zeros}
use Rattle.readings.specs.declared.Reading.{Reading}

-- z xor (z shifted down by k)
abbrev pub folded : ℕ → ℕ → ℕ
folded k z = bit_xor z (z / 2 ^ k)

-- the output step of SplitMix64, modulo 2^64 throughout
abbrev pub mixed : ℕ → ℕ
mixed item = folded 31 ((folded 27 ((folded 30 ((item + 0x9E3779B97F4A7C15) % 2 ^ 64) * 0xBF58476D1CE4E5B9) % 2 ^ 64) * 0x94D049BB133111EB) % 2 ^ 64)

-- the output of the generator that has this seed after so many others: a constant is added to its state before each
abbrev pub output_of : ℕ → ℕ → ℕ
output_of seed i = mixed ((seed + i * 0x9E3779B97F4A7C15 % 2 ^ 64) % 2 ^ 64)

-- a reading counts by its item
abbrev pub hash_of : Reading → ℕ
hash_of r = mixed r.item

-- how many zero bits end the quotient; 31 where it is 0 or has more of them
abbrev pub rank_of : ℕ → ℕ
rank_of quotient = cond (eqb quotient 0 || ltb 31 (count_trailing_zeros 64 quotient)) 31 (count_trailing_zeros 64 quotient)

-- the bucket and the rank of a hash
abbrev pub mark_of : ℕ → ℕ × ℕ
mark_of hash = (hash % 64, rank_of (hash / 64))
