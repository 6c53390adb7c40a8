-- The pair of two kinds, which has both side by side in its forms and in its frames.
use Rattle.std.specs.Prelude.{ℕ, ◌+◌, ◌-◌, ◌*◌, min, Bool, cond, ◌||◌, List, ◌∷◌, ◌++◌, length, Ok, Err, Result, ◌==◌, nat_lt, slice_index}
use Rattle.synopsis.specs.declared.fault.DecodeFault.{DecodeFault}
use Rattle.synopsis.specs.Faults.{refusal}
use Rattle.synopsis.specs.Kind.{Kind, longest}
use Rattle.frames.specs.declared.header.Header.{Header}
use Rattle.frames.specs.Headers.{header_bytes, opened}
use Rattle.frames.specs.Numbers.{in_bytes}
use Rattle.layers.specs.Parts.{then_read, read_part}

-- what stands before the sides: the header, with the count 2, and in two bytes the offset of the second side
abbrev pub pair_head : ℕ → ℕ → List ℕ
pair_head offset end = header_bytes 5 2 end ++ in_bytes 2 offset

-- the frame of two sides: the first from byte 6 to the offset, the second from there to the end
abbrev pub pair_bytes : List ℕ → List ℕ → List ℕ
pair_bytes first second = pair_head (6 + length first) (6 + length first + length second) ++ first ++ second

-- the offset that bytes 4 and 5 write
abbrev pub offset_in : List ℕ → ℕ
offset_in bytes = slice_index bytes 4 * 256 + slice_index bytes 5

-- whether the offset is absent, or leaves a side fewer than four bytes
abbrev pub misplaced : List ℕ → Bool
misplaced bytes = nat_lt (length bytes) 6 || (nat_lt (offset_in bytes) 10 || nat_lt (length bytes - 4) (offset_in bytes))

abbrev pub offset_after : List ℕ → Header → Result ℕ DecodeFault
offset_after bytes header =
    cond (header.end == length bytes)
    (cond (misplaced bytes) (Err (refusal 14 4 5)) (Ok (offset_in bytes)))
    (Err (refusal 12 2 5))

-- the offset of the second side
abbrev pub second_offset : List ℕ → Result ℕ DecodeFault
second_offset bytes = then_read (opened 5 2 2 bytes) (offset_after bytes)

module _ (a b : Kind) where
  -- the first side, and then the second
  abbrev pub read_sides : List ℕ → ℕ → Result (a.Form × b.Form) DecodeFault
  read_sides bytes offset =
      then_read (read_part a 6 offset bytes) (λ x.
      then_read (read_part b offset (length bytes) bytes) (λ y. Ok (x, y)))

  abbrev pub pair_greatest : ℕ
  pair_greatest = min (6 + a.greatest + b.greatest) 2049

  abbrev pub pair_kind : Kind
  pair_kind = record {
    Form = a.Form × b.Form;
    number = 5;
    greatest = pair_greatest;
    below = (a.number ∷ a.below) ++ (b.number ∷ b.below);
    none = (a.none, b.none);
    single = λ r. (a.single r, b.single r);
    join = λ x y. (a.join x.0 y.0, b.join x.1 y.1);
    encoding = λ x. pair_bytes (a.encoding x.0) (b.encoding x.1);
    decoding = λ bytes. cond (nat_lt longest pair_greatest) (Err (refusal 3 0 5)) (then_read (second_offset bytes) (read_sides bytes));
  }
