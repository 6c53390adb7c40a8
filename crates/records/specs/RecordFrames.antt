-- Frames of records: a header with their number, and the records one behind the other.
use Rattle.std.specs.Prelude.{◌≡◌, ℕ, ◌+◌, ◌*◌, ◌≤◌, Bool, true, cond, ◌&&◌, List, ◌++◌, length, take, drop, Ok, Err, Result, ◌==◌, nat_lt}
use Rattle.std.specs.List.{flat_map}
use Rattle.synopsis.specs.declared.fault.DecodeFault.{DecodeFault}
use Rattle.synopsis.specs.declared.fault.EncodeFault.{EncodeFault}
use Rattle.synopsis.specs.Faults.{encode_fault_of, refusal}
use Rattle.synopsis.specs.Kind.{fitted, over}
use Rattle.frames.specs.declared.header.Header.{Header}
use Rattle.frames.specs.Headers.{header_bytes, opened}
use Rattle.records.specs.Records.{Layout, cut}

-- the length of a frame with n records
abbrev pub end_of : {E : Type 0} → Layout E → ℕ → ℕ
end_of l n = 4 + n * l.width

-- whether n records fit into a frame: their number into its byte, and the end into its two
abbrev pub fits_frame : {E : Type 0} → Layout E → ℕ → Bool
fits_frame l n = nat_lt n 256 && nat_lt (end_of l n) 65536

-- the length of a frame with n records, or 2,049 where they do not fit
abbrev pub records_length : {E : Type 0} → Layout E → ℕ → ℕ
records_length l n = cond (fits_frame l n) (end_of l n) 2049

-- the frame of a kind with these records
abbrev pub frame_of : {E : Type 0} → ℕ → Layout E → List E → List ℕ
frame_of number l xs = header_bytes number (length xs) (end_of l (length xs)) ++ flat_map l.written xs

-- what is answered where that frame is to be written, with room for so many bytes
abbrev pub records_answer : {E : Type 0} → ℕ → Layout E → List E → ℕ → Result ℕ EncodeFault
records_answer number l xs room = cond (fits_frame l (length xs)) (fitted (frame_of number l xs) room) (Err (encode_fault_of 3))

-- the bytes after it
abbrev pub records_after : {E : Type 0} → ℕ → Layout E → List E → List ℕ → List ℕ
records_after number l xs bytes = cond (fits_frame l (length xs)) (over (frame_of number l xs) bytes) bytes

-- places after such a reading: the records in front and the others as before, or all as before where there is a fault
abbrev pub placed_over : {E : Type 0} → Result (List E) DecodeFault → List E → List E
placed_over (Err e) before = before
placed_over (Ok xs) before = xs ++ drop (length xs) before

-- the frames of the kind with this number, of fewest to most records, by how those are written
module _ {E : Type 0} (number fewest most : ℕ) (l : Layout E) where
  -- behind a header, whose end has to be the number of bytes and the length that its count demands
  abbrev pub records_behind : List ℕ → Result Header DecodeFault → Result (List E) DecodeFault
  records_behind bytes (Err e) = Err e
  records_behind bytes (Ok h) =
      cond (h.end == length bytes && h.end == end_of l h.count) (Ok (cut l h.count (drop 4 bytes))) (Err (refusal 12 2 number))

  -- the records of a frame, or what is wrong with the bytes
  abbrev pub read_records : List ℕ → Result (List E) DecodeFault
  read_records bytes = records_behind bytes (opened number fewest most bytes)

  -- What a frame of n records leaves in places, before and after: the records lie in front, they are written as these very
  -- bytes, and the places behind them are as before.
  pub record Placed (bytes : List ℕ) (before after : List E) (n : ℕ) : Type 0 where
    pub enough : fewest ≤ n
    pub within : n ≤ most
    pub fits : fits_frame l n ≡ true
    pub reads : read_records bytes ≡ Ok (take n after)
    pub back : frame_of number l (take n after) ≡ bytes
    pub rest : drop n after ≡ drop n before
