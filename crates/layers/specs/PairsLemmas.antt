-- The pair of two lawful kinds is lawful, and its frames are written and read side by side.
use Rattle.std.specs.Prelude.{◌≡◌, ℕ, ◌+◌, ◌-◌, ◌/◌, ◌%◌, ◌<◌, ◌≤◌, true, false, ◌||◌, List, [], ◌∷◌, ◌++◌, length, take, drop, All, Contains, Ok, Err, Result, MatchResult, ◌==◌, nat_eq, nat_lt, slice_index, slice_index_or, refl}
use Rattle.std.proofs.Common.{sym, ap, ◌∙◌, arith}
use borrow.Rule.Slice.PartMut.{put_mid}
use Rattle.std.specs.Result.{result_map_both}
use Rattle.std.specs.List.{between}
use Rattle.std.proofs.lemmas.List.{length-append, length-take, length-drop, take_at, take_all, drop_at, drop-drop, drop_more, take_rest, take-append-drop, append_assoc}
use Rattle.std.proofs.lemmas.List.Edits.{length-between}
use Rattle.std.proofs.lemmas.List.Elements.{All-from_get_or, Contains-append_left, Contains-append_right}
use Rattle.std.proofs.lemmas.Result.{MatchResult-at_ok, MatchResult-weaker}
use Rattle.std.proofs.lemmas.Bool.{ltb-false, eq-eqb, eqb-true, cond-true, cond-false, cond_both, or_parts}
use Rattle.std.proofs.lemmas.Bool.Decides.{nat_tests}
use Rattle.synopsis.specs.declared.fault.DecodeFault.{DecodeFault}
use Rattle.synopsis.specs.Kind.{Kind, Laws, overlong, frame_length, over, encode_answer, encode_after}
use Rattle.synopsis.proofs.Fits.{over_so}
use Rattle.synopsis.proofs.Reading.{read_apart, own_fault, Tells, tells_exact, tells_arises, tells_inside}
use Rattle.frames.specs.declared.header.Header.{Header}
use Rattle.frames.specs.Numbers.{in_bytes}
use Rattle.frames.proofs.Headers.{Read, Opens, opened_header, opened_tells, header_back}
use Rattle.frames.proofs.Fronts.{next_written}
use Rattle.layers.specs.Parts.{then_read, raise, read_part}
use Rattle.layers.specs.Pairs.{pair_head, pair_bytes, offset_in, misplaced, offset_after, second_offset, read_sides, pair_kind}
use Rattle.layers.specs.PartsLemmas.{fits_length, room_after, filled, last_length, last_written, then_tells, part_tells}

-- a pair that is not overlong has no overlong side
module _ (a b : Kind) (h : overlong (pair_kind a b) ≡ false) where
  pub first_fits : overlong a ≡ false
  first_fits = grind (arith, nat_tests)

  pub second_fits : overlong b ≡ false
  second_fits = grind (arith, nat_tests)

-- a frame of two sides divides into them
module _ (first second : List ℕ) where
  pub length_pair : length (pair_bytes first second) ≡ 6 + length first + length second
  length_pair = omega (arith, length-append first second)

  offset_back : 4 ≤ length first → 4 ≤ length second → second_offset (pair_bytes first second) ≡ Ok (6 + length first)
  offset_back h k =
      let bytes = pair_bytes first second in
      let long = length_pair in
      let offset = 6 + length first in
      let end = 6 + length first + length second in
      let written : offset_in bytes ≡ offset = omega arith in
      let ended : nat_eq end (length bytes) ≡ true = eq-eqb end (length bytes) (sym long) in
      let placed : misplaced bytes ≡ false = grind (arith, nat_tests) in
      ap (λ (r : Result Header DecodeFault). then_read r (offset_after bytes)) (opened_header 5 2 2 2 end (in_bytes 2 offset ++ first ++ second) (omega arith) (omega arith))
      ∙ cond-true (end == length bytes) _ _ ended
      ∙ cond-false (misplaced bytes) _ _ placed
      ∙ ap Ok written

  first_back : between 6 (6 + length first) (pair_bytes first second) ≡ first
  first_back = take_at first second (6 + length first - 6) (omega arith)

  second_back : between (6 + length first) (length (pair_bytes first second)) (pair_bytes first second) ≡ second
  second_back =
      let bytes = pair_bytes first second in
      let long = length_pair in
      let rest : drop (6 + length first) bytes ≡ second = sym (drop-drop (length first) 6 bytes) ∙ drop_at first second (length first) refl in
      rw rest (take_all (length bytes - (6 + length first)) second (omega arith))

-- what is known of bytes where an offset is read
pub record Divided (bytes : List ℕ) (at : ℕ) : Type 0 where
  pub header : Header
  pub read : Read 5 2 2 bytes header
  pub ends : header.end ≡ length bytes
  pub offset : offset_in bytes ≡ at
  pub low : 10 ≤ at
  pub high : at + 4 ≤ length bytes

module _ (bytes : List ℕ) where
  abbrev OffsetKnown : Result ℕ DecodeFault → Type 0
  OffsetKnown r = MatchResult r (Divided bytes) (λ e. (e.place ≤ length bytes) × (e.kind ≡ 5))

  offset_after_known : (r : Result Header DecodeFault) → Opens 5 2 2 bytes r → OffsetKnown (then_read r (offset_after bytes))
  offset_after_known (Err e) h = h
  offset_after_known (Ok header) h =
      let four : 4 ≤ length bytes = h.long in
      let offset = offset_in bytes in
      cond_both (header.end == length bytes) _ _ OffsetKnown
      (λ e. cond_both (misplaced bytes) _ _ OffsetKnown (λ _. (four, refl)) (λ f.
      let long = or_parts (nat_lt (length bytes) 6) (nat_lt offset 10 || nat_lt (length bytes - 4) offset) f in
      let placed = or_parts (nat_lt offset 10) (nat_lt (length bytes - 4) offset) long.1 in
      let most = ltb-false (length bytes - 4) offset placed.1 in
      record {
        header = header;
        read = h;
        ends = eqb-true header.end (length bytes) e;
        offset = refl;
        low = ltb-false offset 10 placed.0;
        high = omega arith;
      }))
      (λ _. (omega arith, refl))

  offset_known : OffsetKnown (second_offset bytes)
  offset_known = offset_after_known _ (opened_tells 5 2 2 bytes)

  -- the sides that are read make up the bytes again
  sides_whole : (at : ℕ) → Divided bytes at → All (λ b. b < 256) bytes → pair_bytes (between 6 at bytes) (between at (length bytes) bytes) ≡ bytes
  sides_whole at d small =
      let first = between 6 at bytes in
      let second = between at (length bytes) bytes in
      let least = d.low in
      let most = d.high in
      let before : 6 + length first ≡ at = omega (arith, length-between bytes 6 at (omega arith)) in
      let whole : 6 + length first + length second ≡ d.header.end = omega (arith, d.ends, length-between bytes at (length bytes) (omega arith)) in
      let rest : first ++ second ≡ drop 6 bytes =
      ap (λ (l : List ℕ). first ++ l) (take_rest bytes at ∙ ap (λ (n : ℕ). drop n bytes) (omega arith) ∙ sym (drop-drop (at - 6) 6 bytes)) ∙ take-append-drop (at - 6) (drop 6 bytes) in
      let head = header_back 5 2 2 bytes d.header d.read (small 3 0 (omega arith)) in
      let count : d.header.count ≡ 2 = omega (arith, d.read.enough, d.read.within) in
      let lt = small 5 0 (omega arith) in
      let b4 : (6 + length first) / 256 ≡ slice_index_or bytes 4 0 = omega (arith, d.offset) in
      let b5 : (6 + length first) / 1 % 256 ≡ slice_index_or bytes 5 0 = omega (arith, d.offset) in
      let d4 = drop_more bytes 4 0 (omega arith) in
      let d5 = drop_more bytes 5 0 (omega arith) in
      cc

module _ (a b : Kind) (l : Laws a) (m : Laws b) where
  sides_back : overlong (pair_kind a b) ≡ false → (x : a.Form) (y : b.Form) → read_sides a b (pair_bytes (a.encoding x) (b.encoding y)) (6 + length (a.encoding x)) ≡ Ok (x, y)
  sides_back h x y =
      let bytes = pair_bytes (a.encoding x) (b.encoding y) in
      let at = 6 + length (a.encoding x) in
      let first : read_part a 6 at bytes ≡ Ok x =
      ap (λ (part : List ℕ). result_map_both (λ z. z) (raise 6) (a.decoding part)) (first_back (a.encoding x) (b.encoding y)) ∙ ap (result_map_both (λ z. z) (raise 6)) (l.back (first_fits a b h) x) in
      let second : read_part b at (length bytes) bytes ≡ Ok y =
      ap (λ (part : List ℕ). result_map_both (λ z. z) (raise at) (b.decoding part)) (second_back (a.encoding x) (b.encoding y)) ∙ ap (result_map_both (λ z. z) (raise at)) (m.back (second_fits a b h) y) in
      ap (λ (r : Result a.Form DecodeFault). then_read r (λ z. then_read (read_part b at (length bytes) bytes) (λ w. Ok (z, w)))) first
      ∙ ap (λ (r : Result b.Form DecodeFault). then_read r (λ w. Ok (x, w))) second

  -- a fault arose in the pair itself, or in one of its sides
  abbrev PairFault : List ℕ → DecodeFault → Type 0
  PairFault bytes e = (e.place ≤ length bytes) × Contains (5 ∷ (a.number ∷ a.below) ++ (b.number ∷ b.below)) e.kind

  of_first : (bytes : List ℕ) (e : DecodeFault) → (e.place ≤ length bytes) × Contains (a.number ∷ a.below) e.kind → PairFault bytes e
  of_first bytes e h = (h.0, Contains-append_right (5 ∷ []) (pair_kind a b).below e.kind (Contains-append_left (a.number ∷ a.below) (b.number ∷ b.below) e.kind h.1))

  of_second : (bytes : List ℕ) (e : DecodeFault) → (e.place ≤ length bytes) × Contains (b.number ∷ b.below) e.kind → PairFault bytes e
  of_second bytes e h = (h.0, Contains-append_right (5 ∷ []) (pair_kind a b).below e.kind (Contains-append_right (a.number ∷ a.below) (b.number ∷ b.below) e.kind h.1))

  sides_tell : (bytes : List ℕ) (at : ℕ) → Divided bytes at → Tells (pair_kind a b) bytes (read_sides a b bytes at)
  sides_tell bytes at d =
      let low = d.low in
      let high = d.high in
      let first = part_tells a l 6 at bytes (omega arith) (omega arith) in
      let second = part_tells b m at (length bytes) bytes (omega arith) (omega arith) in
      then_tells _ _ (PairFault bytes) (read_part a 6 at bytes) _ (MatchResult-weaker (read_part a 6 at bytes) first (λ _ h. h) (of_first bytes))
      (λ x x_is. then_tells _ _ (PairFault bytes) (read_part b at (length bytes) bytes) _ (MatchResult-weaker (read_part b at (length bytes) bytes) second (λ _ h. h) (of_second bytes))
      (λ y y_is small. ap (λ (s : List ℕ). pair_bytes s (b.encoding y)) (x_is small) ∙ ap (pair_bytes (between 6 at bytes)) (y_is small) ∙ sides_whole bytes at d small))

  pair_tells : (bytes : List ℕ) → Tells (pair_kind a b) bytes ((pair_kind a b).decoding bytes)
  pair_tells bytes =
      cond_both (overlong (pair_kind a b)) _ _ (Tells (pair_kind a b) bytes)
      (λ _. (omega arith, own_fault 5 (pair_kind a b).below 5 refl))
      (λ _. then_tells (Divided bytes) _ (PairFault bytes) (second_offset bytes) (read_sides a b bytes)
      (MatchResult-weaker (second_offset bytes) (offset_known bytes) (λ _ d. d) (λ e h. (h.0, own_fault 5 (pair_kind a b).below e.kind h.1)))
      (sides_tell bytes))

  pair_back : overlong (pair_kind a b) ≡ false → (x : a.Form × b.Form) → (pair_kind a b).decoding ((pair_kind a b).encoding x) ≡ Ok x
  pair_back h x =
      cond-false (overlong (pair_kind a b)) _ _ h
      ∙ ap (λ (r : Result ℕ DecodeFault). then_read r (read_sides a b ((pair_kind a b).encoding x))) (offset_back (a.encoding x.0) (b.encoding x.1) (l.least (first_fits a b h) x.0) (m.least (second_fits a b h) x.1))
      ∙ sides_back h x.0 x.1

  pub pair_laws : Laws (pair_kind a b)
  pair_laws = record {
    assoc = λ x y z. λ i. (l.assoc x.0 y.0 z.0 i, m.assoc x.1 y.1 z.1 i);
    comm = λ x y. λ i. (l.comm x.0 y.0 i, m.comm x.1 y.1 i);
    idem = λ x. λ i. (l.idem x.0 i, m.idem x.1 i);
    unit = λ x. λ i. (l.unit x.0 i, m.unit x.1 i);
    bounded = omega arith;
    least = λ h x. let long = length_pair (a.encoding x.0) (b.encoding x.1) in omega arith;
    most = λ h x.
        let long = length_pair (a.encoding x.0) (b.encoding x.1) in
        let first = l.most (first_fits a b h) x.0 in
        let second = m.most (second_fits a b h) x.1 in
        let short = ltb-false 2048 (pair_kind a b).greatest h in
        omega arith;
    back = pair_back;
    apart = λ h x y. read_apart (pair_kind a b).encoding (pair_kind a b).decoding x y (pair_back h x) (pair_back h y);
    exact = tells_exact (pair_kind a b) pair_tells;
    arises = tells_arises (pair_kind a b) pair_tells;
    inside = tells_inside (pair_kind a b) pair_tells;
    shut = λ h bytes. cond-true (overlong (pair_kind a b)) _ _ h;
  }

-- a pair that is not overlong is written from the front on
module _ (a b : Kind) (h : overlong (pair_kind a b) ≡ false) (x : a.Form) (y : b.Form) where
  -- its frame is as long as the head and the frames of its sides
  pub pair_length : (n m : ℕ) → n ≡ frame_length a x → m ≡ frame_length b y → 6 + n + m ≡ length (pair_bytes (a.encoding x) (b.encoding y))
  pair_length n m p q =
      let long = length_pair (a.encoding x) (b.encoding y) in
      let first = fits_length a (first_fits a b h) x in
      let second = fits_length b (second_fits a b h) y in
      omega arith

  -- the head and the sides, written one after another
  pub pair_written : (out head p q : List ℕ) (n m : ℕ) → n ≡ frame_length a x → m ≡ frame_length b y → 6 + n + m ≤ length out → head ≡ pair_head (6 + n) (6 + n + m)
      → p ≡ encode_after a x (between 6 (6 + n) (head ++ drop 6 out))
      → q ≡ encode_after b y (between (6 + n) (6 + n + m) (put_mid 6 (6 + n - 6) (head ++ drop 6 out) p))
      → put_mid (6 + n) (6 + n + m - (6 + n)) (put_mid 6 (6 + n - 6) (head ++ drop 6 out) p) q ≡ encode_after (pair_kind a b) (x, y) out
  pair_written out head p q n m n_is m_is room head_is p_is q_is =
      let at = 6 + n in
      let end = 6 + n + m in
      let whole = pair_length n m n_is m_is in
      let first : n ≡ length (a.encoding x) = n_is ∙ fits_length a (first_fits a b h) x in
      let second : m ≡ length (b.encoding y) = m_is ∙ fits_length b (second_fits a b h) y in
      let six : length head ≡ 6 = ap length head_is in
      let written = next_written head out 6 at six (omega arith) p in
      let p_filled : p ≡ a.encoding x =
      p_is ∙ filled a (first_fits a b h) x (between 6 at (head ++ drop 6 out)) (length-between (head ++ drop 6 out) 6 at (simp (length-append, length-drop) (omega arith)) ∙ omega arith) in
      let front : length (head ++ p) ≡ at = simp length-append (omega (arith, ap length p_filled)) in
      let q_filled : q ≡ b.encoding y =
      q_is
      ∙ ap (λ (l : List ℕ). encode_after b y (between at end l)) written
      ∙ filled b (second_fits a b h) y (between at end ((head ++ p) ++ drop at out)) (length-between ((head ++ p) ++ drop at out) at end (simp (length-append, length-drop) (omega (arith, ap length p_filled))) ∙ omega arith) in
      let parts : (head ++ p) ++ q ≡ pair_bytes (a.encoding x) (b.encoding y) =
      ap (λ (l : List ℕ). (l ++ p) ++ q) (head_is ∙ ap (λ (i : ℕ). pair_head (6 + i) (6 + i + m)) first ∙ ap (λ (i : ℕ). pair_head (6 + length (a.encoding x)) (6 + length (a.encoding x) + i)) second)
      ∙ ap (λ (l : List ℕ). (pair_head (6 + length (a.encoding x)) (6 + length (a.encoding x) + length (b.encoding y)) ++ l) ++ q) p_filled
      ∙ ap (λ (l : List ℕ). (pair_head (6 + length (a.encoding x)) (6 + length (a.encoding x) + length (b.encoding y)) ++ a.encoding x) ++ l) q_filled in
      ap (λ (l : List ℕ). put_mid at (end - at) l q) written
      ∙ next_written (head ++ p) out at end front (omega arith) q
      ∙ ap (λ (l : List ℕ). l ++ drop end out) parts
      ∙ ap (λ (i : ℕ). pair_bytes (a.encoding x) (b.encoding y) ++ drop i out) whole
      ∙ room_after (pair_kind a b) h (x, y) out (omega arith)

-- the sides are written one behind the other, and the head last
module _ (a b : Kind) (l : Laws a) (m : Laws b) (h : overlong (pair_kind a b) ≡ false) (x : a.Form) (y : b.Form) where
  pub sides_written : (out p q head : List ℕ) (n k : ℕ) → (pair_kind a b).greatest ≤ length out
      → Ok n ≡ encode_answer a x (length (between 6 (length out) out))
      → p ≡ encode_after a x (between 6 (length out) out)
      → Ok k ≡ encode_answer b y (length (between (6 + n) (length (put_mid 6 (length out - 6) out p)) (put_mid 6 (length out - 6) out p)))
      → q ≡ encode_after b y (between (6 + n) (length (put_mid 6 (length out - 6) out p)) (put_mid 6 (length out - 6) out p))
      → head ≡ pair_head (6 + n) (6 + n + k)
      → head ++ drop 6 (put_mid (6 + n) (length (put_mid 6 (length out - 6) out p) - (6 + n)) (put_mid 6 (length out - 6) out p) q) ≡ over (pair_bytes (a.encoding x) (b.encoding y)) out
  sides_written out p q head n k room n_is p_is k_is q_is head_is =
      let first = a.encoding x in
      let second = b.encoding y in
      let front = take 6 out in
      let rest = drop 6 out in
      let behind = drop (length first) rest in
      let short = ltb-false 2048 (pair_kind a b).greatest h in
      let first_most = l.most (first_fits a b h) x in
      let second_most = m.most (second_fits a b h) y in
      let frame_long = length_pair first second in
      let whole : out ≡ front ++ rest = sym (take-append-drop 6 out) in
      let six : length front ≡ 6 = simp length-take (omega arith) in
      let first_room : a.greatest ≤ length rest = omega (arith, length-drop 6 out) in
      let n_long = last_length a l (first_fits a b h) x out front rest 6 whole six first_room n n_is in
      let written = last_written a l (first_fits a b h) x out front rest 6 whole six first_room p p_is in
      let at : length (front ++ first) ≡ 6 + n = simp length-append (omega arith) in
      let second_room : b.greatest ≤ length behind = omega (arith, length-drop (length first) rest, length-drop 6 out) in
      let k_long = last_length b m (second_fits a b h) y (put_mid 6 (length out - 6) out p) (front ++ first) behind (6 + n) written at second_room k k_is in
      let last = last_written b m (second_fits a b h) y (put_mid 6 (length out - 6) out p) (front ++ first) behind (6 + n) written at second_room q q_is in
      let end : 6 + (length first + length second) ≡ length (pair_bytes first second) = omega arith in
      let left : drop (length second) behind ≡ drop (length (pair_bytes first second)) out =
      drop-drop (length second) (length first) rest ∙ drop-drop (length first + length second) 6 out ∙ ap (λ (i : ℕ). drop i out) end in
      ap (λ (bytes : List ℕ). head ++ drop 6 bytes) (last ∙ append_assoc (front ++ first) second (drop (length second) behind) ∙ append_assoc front first (second ++ drop (length second) behind))
      ∙ ap (λ (bytes : List ℕ). head ++ bytes) (drop_at front (first ++ (second ++ drop (length second) behind)) 6 six)
      ∙ ap (λ (bytes : List ℕ). bytes ++ (first ++ (second ++ drop (length second) behind))) (head_is ∙ ap (λ (i : ℕ). pair_head (6 + i) (6 + i + k)) n_long ∙ ap (λ (i : ℕ). pair_head (6 + length first) (6 + length first + i)) k_long)
      ∙ ap (λ (bytes : List ℕ). pair_head (6 + length first) (6 + length first + length second) ++ bytes) (sym (append_assoc first second (drop (length second) behind)) ∙ ap (λ (bytes : List ℕ). (first ++ second) ++ bytes) left)
      ∙ over_so (pair_bytes first second) out (omega arith)

-- bytes whose sides are read are the frame of both
pub pair_read : (a b : Kind) → Laws a → Laws b → overlong (pair_kind a b) ≡ false → (bytes : List ℕ) (at : ℕ) (x : a.Form) (y : b.Form) → second_offset bytes ≡ Ok at → ((i : ℕ) → slice_index bytes i < 256)
    → read_part a 6 at bytes ≡ Ok x → read_part b at (length bytes) bytes ≡ Ok y
    → ((pair_kind a b).decoding bytes ≡ Ok (x, y)) × (pair_bytes (a.encoding x) (b.encoding y) ≡ bytes)
pair_read a b l m h bytes at x y e small first second =
    let reads : (pair_kind a b).decoding bytes ≡ Ok (x, y) =
    cond-false (overlong (pair_kind a b)) _ _ h
    ∙ ap (λ (r : Result ℕ DecodeFault). then_read r (read_sides a b bytes)) e
    ∙ ap (λ (r : Result a.Form DecodeFault). then_read r (λ z. then_read (read_part b at (length bytes) bytes) (λ w. Ok (z, w)))) first
    ∙ ap (λ (r : Result b.Form DecodeFault). then_read r (λ w. Ok (x, w))) second in
    (reads, (pair_laws a b l m).exact bytes (All-from_get_or (λ b. b < 256) bytes 0 (λ i _. small i)) (x, y) reads)

-- the same of any two kinds, lawful or not, where each side is the encoding of the form that it is read as
pub pair_read_of : (a b : Kind) → overlong (pair_kind a b) ≡ false → (bytes : List ℕ) (at : ℕ) (x : a.Form) (y : b.Form) → second_offset bytes ≡ Ok at → ((i : ℕ) → slice_index bytes i < 256)
    → read_part a 6 at bytes ≡ Ok x → a.encoding x ≡ between 6 at bytes
    → read_part b at (length bytes) bytes ≡ Ok y → b.encoding y ≡ between at (length bytes) bytes
    → ((pair_kind a b).decoding bytes ≡ Ok (x, y)) × (pair_bytes (a.encoding x) (b.encoding y) ≡ bytes)
pair_read_of a b h bytes at x y e small first first_is second second_is = (
  cond-false (overlong (pair_kind a b)) _ _ h
      ∙ ap (λ (r : Result ℕ DecodeFault). then_read r (read_sides a b bytes)) e
      ∙ ap (λ (r : Result a.Form DecodeFault). then_read r (λ z. then_read (read_part b at (length bytes) bytes) (λ w. Ok (z, w)))) first
      ∙ ap (λ (r : Result b.Form DecodeFault). then_read r (λ w. Ok (x, w))) second,
  ap (λ (l : List ℕ). pair_bytes l (b.encoding y)) first_is ∙ ap (pair_bytes (between 6 at bytes)) second_is ∙ sides_whole bytes at (MatchResult-at_ok (Divided bytes) _ at e (offset_known bytes)) (All-from_get_or (λ b. b < 256) bytes 0 (λ i _. small i)),
)
