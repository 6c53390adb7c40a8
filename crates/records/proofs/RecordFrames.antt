-- A frame of records reads back as them, bytes that are read are their frame, and what is wrong with others lies within them.
use Rattle.std.proofs.Common.{◌≡◌, ℕ, zero, suc, ◌+◌, ◌*◌, ◌<◌, ◌≤◌, true, ◌&&◌, eqb, ltb, List, [], ◌∷◌, ◌++◌, length, take, drop, Ok, Err, Result, sym, refl, ap, ◌∙◌, mul-le-mul_right, suc-mul, zero-mul, arith, MatchResult}
use Rattle.std.specs.List.{All, flat_map}
use Rattle.std.proofs.lemmas.List.{length-append, length-drop, length-take-le, take_at, drop_at, take-append-drop}
use Rattle.std.proofs.lemmas.List.Elements.{All-take, All-drop}
use Rattle.std.proofs.lemmas.Bool.{cond_both, cond-true, eq-eqb, eqb-true, lt-ltb, ltb-true, and_from, and_parts}
use Rattle.synopsis.specs.declared.fault.DecodeFault.{DecodeFault}
use Rattle.synopsis.specs.Kind.{fitted, over}
use Rattle.frames.specs.declared.header.Header.{Header}
use Rattle.frames.specs.Headers.{header_bytes, opened}
use Rattle.frames.proofs.Headers.{opened_header, opened_tells, header_back, Opens, Read}
use Rattle.records.specs.Records.{Layout, Readable, cut}
use Rattle.records.specs.RecordFrames.{end_of, fits_frame, frame_of, records_length, records_answer, records_after, records_behind, read_records}

module _ {E : Type 0} (l : Layout E) where
  pub length_cut : (n : ℕ) (bytes : List ℕ) → length (cut l n bytes) ≡ n
  length_cut zero bytes = refl
  length_cut (suc n) bytes = ap suc (length_cut n (drop l.width bytes))

  pub end_mono : (m n : ℕ) → m ≤ n → end_of l m ≤ end_of l n
  end_mono m n h = let p : m * l.width ≤ n * l.width = mul-le-mul_right l.width h in omega arith

  module _ (rd : Readable l) where
    pub length_joined : (xs : List E) → length (flat_map l.written xs) ≡ length xs * l.width
    length_joined [] = sym (zero-mul l.width)
    length_joined (x ∷ xs) =
        let s = rd.sized x in
        let r = length_joined xs in
        let m = suc-mul (length xs) l.width in
        length-append (l.written x) (flat_map l.written xs) ∙ omega arith

    pub cut_joined : (xs : List E) → cut l (length xs) (flat_map l.written xs) ≡ xs
    cut_joined [] = refl
    cut_joined (x ∷ xs) =
        let rest = flat_map l.written xs in
        let front : l.read (take l.width (l.written x ++ rest)) ≡ x = ap l.read (take_at (l.written x) rest l.width (rd.sized x)) ∙ rd.back x in
        let others : cut l (length xs) (drop l.width (l.written x ++ rest)) ≡ xs = ap (cut l (length xs)) (drop_at (l.written x) rest l.width (rd.sized x)) ∙ cut_joined xs in
        cc

    -- bytes that are cut into records are these, one behind the other
    pub joined_cut : (n : ℕ) (bytes : List ℕ) → length bytes ≡ n * l.width → All (λ b. b < 256) bytes → flat_map l.written (cut l n bytes) ≡ bytes
    joined_cut zero [] long small = refl
    joined_cut zero (b ∷ bytes) long small = let none : suc (length bytes) ≡ 0 = long ∙ zero-mul l.width in absurd (omega arith)
    joined_cut (suc n) bytes long small =
        let whole : length bytes ≡ n * l.width + l.width = long ∙ suc-mul n l.width in
        let front : l.written (l.read (take l.width bytes)) ≡ take l.width bytes =
        rd.whole (take l.width bytes) (length-take-le l.width bytes (omega arith)) (All-take (λ b. b < 256) l.width bytes small) in
        let others : flat_map l.written (cut l n (drop l.width bytes)) ≡ drop l.width bytes =
        joined_cut n (drop l.width bytes) (simp length-drop (omega arith)) (All-drop (λ b. b < 256) l.width bytes small) in
        ap (λ (b : List ℕ). b ++ flat_map l.written (cut l n (drop l.width bytes))) front ∙ ap (λ (b : List ℕ). take l.width bytes ++ b) others ∙ take-append-drop l.width bytes

    pub length_of_frame : (number : ℕ) (xs : List E) → length (frame_of number l xs) ≡ end_of l (length xs)
    length_of_frame number xs = let j = length_joined xs in omega arith

module _ {E : Type 0} (number fewest most : ℕ) (l : Layout E) where
  pub records_back : Readable l → (xs : List E) → fewest ≤ length xs → length xs ≤ most → read_records number fewest most l (frame_of number l xs) ≡ Ok xs
  records_back rd xs lo hi =
      let bytes = frame_of number l xs in
      let whole : (eqb (end_of l (length xs)) (length bytes) && eqb (end_of l (length xs)) (end_of l (length xs))) ≡ true =
      and_from _ _ (eq-eqb _ _ (sym (length_of_frame l rd number xs))) (eq-eqb _ _ refl) in
      ap (records_behind number fewest most l bytes) (opened_header number fewest most (length xs) (end_of l (length xs)) (flat_map l.written xs) lo hi)
      ∙ cond-true _ _ _ whole
      ∙ ap Ok (cut_joined l rd xs)

  -- what bytes that are read tell of their records
  pub record Told (bytes : List ℕ) (xs : List E) : Type 0 where
    pub enough : fewest ≤ length xs
    pub within : length xs ≤ most
    pub ends : end_of l (length xs) ≡ length bytes
    pub exact : Readable l → All (λ b. b < 256) bytes → frame_of number l xs ≡ bytes

  -- and a fault of them lies within the bytes, and is the kind's own
  abbrev pub TellsRecords : List ℕ → Result (List E) DecodeFault → Type 0
  TellsRecords bytes r = MatchResult r (Told bytes) (λ e. (e.place ≤ length bytes) × (e.kind ≡ number))

  -- behind a header that is read stand as many records as it says
  behind_exact : Readable l → (bytes : List ℕ) (h : Header) → Read number fewest most bytes h → h.end ≡ length bytes → h.end ≡ end_of l h.count → All (λ b. b < 256) bytes → frame_of number l (cut l h.count (drop 4 bytes)) ≡ bytes
  behind_exact rd bytes h read ends counted small =
      let long : 4 ≤ length bytes = read.long in
      let rest : flat_map l.written (cut l h.count (drop 4 bytes)) ≡ drop 4 bytes =
      joined_cut l rd h.count (drop 4 bytes) (simp length-drop (omega arith)) (All-drop (λ b. b < 256) 4 bytes small) in
      ap (λ (n : ℕ). header_bytes number n (end_of l n) ++ flat_map l.written (cut l h.count (drop 4 bytes))) (length_cut l h.count (drop 4 bytes))
      ∙ ap (λ (n : ℕ). header_bytes number h.count n ++ flat_map l.written (cut l h.count (drop 4 bytes))) (sym counted)
      ∙ ap (λ (b : List ℕ). header_bytes number h.count h.end ++ b) rest
      ∙ header_back number fewest most bytes h read (small 3 0 (omega arith))

  behind_tells : (bytes : List ℕ) (r : Result Header DecodeFault) → Opens number fewest most bytes r → TellsRecords bytes (records_behind number fewest most l bytes r)
  behind_tells bytes (Err e) h = h
  behind_tells bytes (Ok o) h =
      cond_both (eqb o.end (length bytes) && eqb o.end (end_of l o.count)) _ _ (TellsRecords bytes)
      (λ q. let p = and_parts (eqb o.end (length bytes)) (eqb o.end (end_of l o.count)) q in
      let ends = eqb-true o.end (length bytes) p.0 in
      let counted = eqb-true o.end (end_of l o.count) p.1 in
      let n : length (cut l o.count (drop 4 bytes)) ≡ o.count = length_cut l o.count (drop 4 bytes) in
      record {
        enough = let e : fewest ≤ o.count = h.enough in omega arith;
        within = let e : o.count ≤ most = h.within in omega arith;
        ends = ap (end_of l) n ∙ sym counted ∙ ends;
        exact = λ rd small. behind_exact rd bytes o h ends counted small;
      })
      (λ q. let long : 4 ≤ length bytes = h.long in (omega arith, refl))

  pub records_tell : (bytes : List ℕ) → TellsRecords bytes (read_records number fewest most l bytes)
  records_tell bytes = behind_tells bytes (opened number fewest most bytes) (opened_tells number fewest most bytes)

-- records that are no more than some that fit a frame fit too: their length, what is answered where they are written, and what
-- is written, are those of their frame
module _ {E : Type 0} (number : ℕ) (l : Layout E) (most : ℕ) (fits : fits_frame l most ≡ true) (xs : List E) (few : length xs ≤ most) where
  fewer_fit : fits_frame l (length xs) ≡ true
  fewer_fit =
      let p = and_parts (ltb most 256) (ltb (end_of l most) 65536) fits in
      let small = ltb-true most 256 p.0 in
      let short = ltb-true (end_of l most) 65536 p.1 in
      let m = end_mono l (length xs) most few in
      and_from _ _ (lt-ltb (length xs) 256 (omega arith)) (lt-ltb (end_of l (length xs)) 65536 (omega arith))

  pub length_fits : Readable l → records_length l (length xs) ≡ length (frame_of number l xs)
  length_fits rd = cond-true (fits_frame l (length xs)) _ _ fewer_fit ∙ sym (length_of_frame l rd number xs)

  pub answer_fits : (room : ℕ) → records_answer number l xs room ≡ fitted (frame_of number l xs) room
  answer_fits room = cond-true (fits_frame l (length xs)) _ _ fewer_fit

  pub after_fits : (bytes : List ℕ) → records_after number l xs bytes ≡ over (frame_of number l xs) bytes
  after_fits bytes = cond-true (fits_frame l (length xs)) _ _ fewer_fit
