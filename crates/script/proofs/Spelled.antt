-- Lines that are written are read as they were meant.
use Rattle.std.proofs.Common.{◌≡◌, ℕ, zero, suc, ◌+◌, ◌-◌, ◌*◌, ◌/◌, ◌%◌, ◌^◌, ◌<◌, ◌≤◌, ◌==◌, ◌&&◌, Bool, true, false, cond, nat_lt, nat_le, List, [], ◌∷◌, ◌++◌, length, get_or, None, Some, Ok, Result, refl, sym, ap, ◌∙◌, arith}
use Rattle.std.specs.Char.{is_ascii_digit}
use Rattle.std.specs.Fmt.{decimal}
use Rattle.std.specs.List.{All, list_all}
use Rattle.std.proofs.lemmas.Bool.{cond-true, lt-ltb, le-leb, and_parts, ne_eqb, eq-eqb}
use Rattle.std.proofs.lemmas.Fmt.{digits_decimal, digits_value-decimal, decimal_digit, first_decimal}
use Rattle.std.proofs.lemmas.Str.Parse.{IsNumeralModel, IsDigitsTest, FoldsDigits, numerals_by_fold}
use Rattle.std.proofs.lemmas.List.Elements.{All-nil, All-cons, All-head, All-tail}
use Rattle.std.proofs.lemmas.List.Splits.{slice_split_none, slice_split_at}
use Rattle.histories.specs.declared.Call.TheVariants.{Generate, Arrive, Send, Deliver, Drop, Read}
use Rattle.script.specs.Lines.{fields}
use Rattle.script.specs.declared.fault.LineFault.{LineFault}
use Rattle.script.specs.declared.ask.KindLetter.{KindLetter}
use Rattle.script.specs.declared.ask.KindLetter.TheVariants.{Bitmaps, LeastValues, Sample, Pile}
use Rattle.script.specs.declared.ask.Stage.TheVariants as stage
use Rattle.script.specs.declared.ask.Ask.TheVariants as ask
use Rattle.script.specs.Fields.{◌>>=◌, is_number, value_after, value, number, below, is_hex, hex_value, pair_bytes, are_pairs, bytes}
use Rattle.script.specs.Asking.{kind_of, lent, opens, generates, arrives, sends, delivers, drops, reads, usages, opened, called, used}
use Rattle.script.specs.Spelling.{hex_digit, hex_pairs, kind_letter, ReadsBack}

-- digits, and what they show, in the words of the library
digit_test : IsDigitsTest (λ ds. list_all is_ascii_digit ds ≡ true)
digit_test = record {
  empty = refl;
  parts = λ c cs h. grind arith;
  more = λ c cs h t. grind arith;
}

folds : FoldsDigits value_after
folds = record {
  empty = λ n. refl;
  more = λ n c cs h. ap (λ (m : ℕ). value_after (m + (c - 48)) cs) (let e : 10 * n ≡ n * 10 = omega arith in e);
}

own : IsNumeralModel (λ ds. list_all is_ascii_digit ds ≡ true) value
own = numerals_by_fold (λ ds. list_all is_ascii_digit ds ≡ true) digit_test value_after folds

no_zero : (ds : List ℕ) → list_all is_ascii_digit ds ≡ true → 48 < get_or ds 0 0 → is_number ds ≡ true
no_zero [] t lt = absurd (omega arith)
no_zero (b ∷ []) t lt = grind arith
no_zero (b ∷ c ∷ rest) t lt = grind (arith, ne_eqb)

-- a number that is written has the form of one
is_number-decimal : (n : ℕ) → n < 2 ^ 64 → is_number (decimal n) ≡ true
is_number-decimal zero h = ap is_number (decimal_digit 0 (omega arith))
is_number-decimal (suc n) h = no_zero (decimal (suc n)) (digits_decimal own (suc n) h) (first_decimal (suc n) (omega arith) h)

-- and is read as it is
pub number-decimal : (n : ℕ) → n < 2 ^ 64 → number (decimal n) ≡ Ok (Some n)
number-decimal n h =
    cond-true (is_number (decimal n)) _ _ (is_number-decimal n h)
    ∙ ap (λ (m : ℕ). Ok (cond (nat_lt m (2 ^ 64)) (Some m) None)) (digits_value-decimal own n h)
    ∙ ap Ok (cond-true (nat_lt n (2 ^ 64)) _ _ (lt-ltb n (2 ^ 64) h))

below-fits : (bound n : ℕ) → n < bound → below bound (Some n) ≡ Ok n
below-fits bound n h = cond-true (nat_lt n bound) _ _ (lt-ltb n bound h)

-- a step that refuses nothing
step : {A B : Type 0} {r : Result A LineFault} {a : A} {out : Result B LineFault} (next : A → Result B LineFault) → r ≡ Ok a → next a ≡ out → (r >>= next) ≡ out
step next e h = ap (λ x. x >>= next) e ∙ h

-- fields with no space in them
abbrev NoSpace : List ℕ → Type 0
NoSpace field = All (λ b. (b == 32) ≡ false) field

digits_no_space : (ds : List ℕ) → list_all is_ascii_digit ds ≡ true → NoSpace ds
digits_no_space [] t = All-nil (λ b. (b == 32) ≡ false)
digits_no_space (b ∷ rest) t =
    let p = and_parts (is_ascii_digit b) (list_all is_ascii_digit rest) t in
    All-cons (λ b. (b == 32) ≡ false) b rest (grind (arith, p.0)) (digits_no_space rest p.1)

decimal_no_space : (n : ℕ) → n < 2 ^ 64 → NoSpace (decimal n)
decimal_no_space n h = digits_no_space (decimal n) (digits_decimal own n h)

first_word : (a rest : List ℕ) → NoSpace a → fields (a ++ 32 ∷ rest) ≡ a ∷ fields rest
first_word a rest h = slice_split_at (λ b. b == 32) a 32 rest h refl

last_word : (a : List ℕ) → NoSpace a → fields a ≡ a ∷ []
last_word a h = slice_split_none (λ b. b == 32) a h

two_words : (a b : List ℕ) → NoSpace a → NoSpace b → fields (a ++ (32 ∷ b)) ≡ a ∷ b ∷ []
two_words a b ha hb = first_word a b ha ∙ ap (λ (l : List (List ℕ)). a ∷ l) (last_word b hb)

four_words : (a b c d : List ℕ) → NoSpace a → NoSpace b → NoSpace c → NoSpace d → fields (a ++ (32 ∷ (b ++ (32 ∷ (c ++ (32 ∷ d)))))) ≡ a ∷ b ∷ c ∷ d ∷ []
four_words a b c d ha hb hc hd =
    first_word a (b ++ (32 ∷ (c ++ (32 ∷ d)))) ha
    ∙ ap (λ (l : List (List ℕ)). a ∷ l) (first_word b (c ++ (32 ∷ d)) hb ∙ ap (λ (l : List (List ℕ)). b ∷ l) (two_words c d hc hd))

-- letters of kinds
kind_no_space : (k : KindLetter) → NoSpace (kind_letter k)
kind_no_space Bitmaps = All-cons (λ b. (b == 32) ≡ false) 98 [] refl (All-nil (λ b. (b == 32) ≡ false))
kind_no_space LeastValues = All-cons (λ b. (b == 32) ≡ false) 118 [] refl (All-nil (λ b. (b == 32) ≡ false))
kind_no_space Sample = All-cons (λ b. (b == 32) ≡ false) 115 [] refl (All-nil (λ b. (b == 32) ≡ false))
kind_no_space Pile = All-cons (λ b. (b == 32) ≡ false) 112 [] refl (All-nil (λ b. (b == 32) ≡ false))

kind_of-letter : (k : KindLetter) → kind_of (kind_letter k) ≡ Ok k
kind_of-letter Bitmaps = refl
kind_of-letter LeastValues = refl
kind_of-letter Sample = refl
kind_of-letter Pile = refl

-- bytes in capital hex
digit_is : (d : ℕ) → d < 16 → (is_hex (hex_digit d) ≡ true) × (hex_value (hex_digit d) ≡ d)
digit_is d h = (grind arith, grind arith)

hex_no_space : (ds : List ℕ) → list_all is_hex ds ≡ true → NoSpace ds
hex_no_space [] t = All-nil (λ b. (b == 32) ≡ false)
hex_no_space (b ∷ rest) t =
    let p = and_parts (is_hex b) (list_all is_hex rest) t in
    All-cons (λ b. (b == 32) ≡ false) b rest (grind (arith, p.0)) (hex_no_space rest p.1)

length-hex_pairs : (bs : List ℕ) → length (hex_pairs bs) ≡ 2 * length bs
length-hex_pairs [] = refl
length-hex_pairs (b ∷ rest) = omega (arith, length-hex_pairs rest)

both_true : (a b : Bool) → a ≡ true → b ≡ true → (a && b) ≡ true
both_true true b e h = h
both_true false b e h = absurd (let f : false ≡ true = e in cc)

hex_pairs-hex : (bs : List ℕ) → All (λ b. b < 256) bs → list_all is_hex (hex_pairs bs) ≡ true
hex_pairs-hex [] h = refl
hex_pairs-hex (b ∷ rest) h =
    let lt : b < 256 = All-head (λ b. b < 256) b rest h in
    both_true (is_hex (hex_digit (b / 16))) _ (digit_is (b / 16) (omega arith)).0
    (both_true (is_hex (hex_digit (b % 16))) _ (digit_is (b % 16) (omega arith)).0 (hex_pairs-hex rest (All-tail (λ b. b < 256) b rest h)))

pair_bytes-hex_pairs : (bs : List ℕ) → All (λ b. b < 256) bs → pair_bytes (hex_pairs bs) ≡ bs
pair_bytes-hex_pairs [] h = refl
pair_bytes-hex_pairs (b ∷ rest) h =
    let lt : b < 256 = All-head (λ b. b < 256) b rest h in
    let high = (digit_is (b / 16) (omega arith)).1 in
    let low = (digit_is (b % 16) (omega arith)).1 in
    ap (λ (n : ℕ). (16 * n + hex_value (hex_digit (b % 16))) ∷ pair_bytes (hex_pairs rest)) high
    ∙ ap (λ (n : ℕ). (16 * (b / 16) + n) ∷ pair_bytes (hex_pairs rest)) low
    ∙ ap (λ (n : ℕ). n ∷ pair_bytes (hex_pairs rest)) (let e : 16 * (b / 16) + b % 16 ≡ b = omega arith in e)
    ∙ ap (λ (l : List ℕ). b ∷ l) (pair_bytes-hex_pairs rest (All-tail (λ b. b < 256) b rest h))

bytes-hex_pairs : (bs : List ℕ) → 1 ≤ length bs → length bs ≤ 2048 → All (λ b. b < 256) bs → bytes (hex_pairs bs) ≡ Ok bs
bytes-hex_pairs bs some short h =
    let n = length-hex_pairs bs in
    let form : are_pairs (hex_pairs bs) ≡ true =
    both_true (nat_le 2 (length (hex_pairs bs))) _ (le-leb 2 (length (hex_pairs bs)) (omega (arith, n)))
    (both_true (nat_le (length (hex_pairs bs)) 4096) _ (le-leb (length (hex_pairs bs)) 4096 (omega (arith, n)))
    (both_true (length (hex_pairs bs) % 2 == 0) _ (eq-eqb (length (hex_pairs bs) % 2) 0 (omega (arith, n))) (hex_pairs-hex bs h))) in
    cond-true (are_pairs (hex_pairs bs)) _ _ form ∙ ap Ok (pair_bytes-hex_pairs bs h)

-- each call
opens_back : (k : KindLetter) (n : ℕ) → n < 2 ^ 32 → opens (fields (kind_letter k ++ (32 ∷ decimal n))) ≡ Ok (k, n)
opens_back k n hn =
    ap opens (two_words (kind_letter k) (decimal n) (kind_no_space k) (decimal_no_space n (omega arith)))
    ∙ step _ (kind_of-letter k) (step _ (number-decimal n (omega arith)) (step _ (below-fits (2 ^ 32) n hn) refl))

generates_back : (n t i a : ℕ) → n < 2 ^ 32 → t < 2 ^ 32 → i < 2 ^ 64 → a < 2 ^ 64 → generates (fields (decimal n ++ (32 ∷ (decimal t ++ (32 ∷ (decimal i ++ (32 ∷ decimal a))))))) ≡ Ok (Generate n (record { tenant = t; item = i; amount = a }))
generates_back n t i a hn ht hi ha =
    ap generates (four_words (decimal n) (decimal t) (decimal i) (decimal a) (decimal_no_space n (omega arith)) (decimal_no_space t (omega arith)) (decimal_no_space i hi) (decimal_no_space a ha))
    ∙ step _ (number-decimal n (omega arith)) (step _ (number-decimal t (omega arith)) (step _ (number-decimal i hi) (step _ (number-decimal a ha)
    (step _ (below-fits (2 ^ 32) n hn) (step _ (below-fits (2 ^ 32) t ht) (step _ (below-fits (2 ^ 64) i hi) (step _ (below-fits (2 ^ 64) a ha) refl)))))))

arrives_back : (n : ℕ) (bs : List ℕ) → n < 2 ^ 32 → 1 ≤ length bs → length bs ≤ 2048 → All (λ b. b < 256) bs → arrives (fields (decimal n ++ (32 ∷ hex_pairs bs))) ≡ Ok (Arrive n (lent bs))
arrives_back n bs hn some short h =
    ap arrives (two_words (decimal n) (hex_pairs bs) (decimal_no_space n (omega arith)) (hex_no_space (hex_pairs bs) (hex_pairs-hex bs h)))
    ∙ step _ (number-decimal n (omega arith)) (step _ (bytes-hex_pairs bs some short h) (step _ (below-fits (2 ^ 32) n hn) refl))

sends_back : (n s : ℕ) → n < 2 ^ 32 → s < 2 ^ 32 → sends (fields (decimal n ++ (32 ∷ decimal s))) ≡ Ok (Send n s)
sends_back n s hn hs =
    ap sends (two_words (decimal n) (decimal s) (decimal_no_space n (omega arith)) (decimal_no_space s (omega arith)))
    ∙ step _ (number-decimal n (omega arith)) (step _ (number-decimal s (omega arith)) (step _ (below-fits (2 ^ 32) n hn) (step _ (below-fits (2 ^ 32) s hs) refl)))

delivers_back : (s n : ℕ) → s < 2 ^ 32 → n < 2 ^ 32 → delivers (fields (decimal s ++ (32 ∷ decimal n))) ≡ Ok (Deliver s n)
delivers_back s n hs hn =
    ap delivers (two_words (decimal s) (decimal n) (decimal_no_space s (omega arith)) (decimal_no_space n (omega arith)))
    ∙ step _ (number-decimal s (omega arith)) (step _ (number-decimal n (omega arith)) (step _ (below-fits (2 ^ 32) s hs) (step _ (below-fits (2 ^ 32) n hn) refl)))

drops_back : (s : ℕ) → s < 2 ^ 32 → drops (fields (decimal s)) ≡ Ok (Drop s)
drops_back s hs =
    ap drops (last_word (decimal s) (decimal_no_space s (omega arith)))
    ∙ step _ (number-decimal s (omega arith)) (step _ (below-fits (2 ^ 32) s hs) refl)

reads_one_back : (n : ℕ) → n < 2 ^ 32 → reads (fields (decimal n)) ≡ Ok (Read n 2048)
reads_one_back n hn =
    ap reads (last_word (decimal n) (decimal_no_space n (omega arith)))
    ∙ step _ (number-decimal n (omega arith)) (step _ (below-fits (2 ^ 32) n hn) refl)

usages_back : (n : ℕ) → n < 2 ^ 32 → usages true (fields (decimal n)) ≡ Ok n
usages_back n hn =
    ap (usages true) (last_word (decimal n) (decimal_no_space n (omega arith)))
    ∙ step _ (number-decimal n (omega arith)) (step _ (below-fits (2 ^ 32) n hn) refl)

pub reads_back : ReadsBack
reads_back stage.Closed (ask.Open k n) ad h = ap opened (opens_back k n h)
reads_back stage.Closed (ask.Call c) ad h = absurd ad
reads_back stage.Closed (ask.Usage n) ad h = absurd ad
reads_back (stage.Open p) (ask.Open k n) ad h = absurd ad
reads_back (stage.Open p) (ask.Call (Generate n r)) ad h = ap called (generates_back n r.tenant r.item r.amount h.0 h.1 h.2 h.3)
reads_back (stage.Open p) (ask.Call (Arrive n f)) ad h = ap called (arrives_back n f.now h.0 h.1 h.2 h.3)
reads_back (stage.Open p) (ask.Call (Send n s)) ad h = ap called (sends_back n s h.0 h.1)
reads_back (stage.Open p) (ask.Call (Deliver s n)) ad h = ap called (delivers_back s n h.0 h.1)
reads_back (stage.Open p) (ask.Call (Drop s)) ad h = ap called (drops_back s h)
reads_back (stage.Open p) (ask.Call (Read n room)) ad h = ap called (reads_one_back n h.0) ∙ ap (λ (m : ℕ). Ok (ask.Call (Read n m))) (sym h.1)
reads_back (stage.Open p) (ask.Usage n) ad h = ap (λ (b : Bool). used (usages b (fields (decimal n)))) ad ∙ ap used (usages_back n h)
