-- Records of a sample are told apart by their key, and read back as they were written.
use Rattle.std.specs.Prelude.{◌≡◌, ℕ, ◌<◌, Bool, true, ◌&&◌, ◌==◌, T, List, ◌++◌, length, take, drop}
use Rattle.std.specs.declared.cmp.Ordering.TheVariants.{Less}
use Rattle.std.proofs.Common.{refl, sym, ap, ◌∙◌, arith}
use borrow.Rule.Slice.PartMut.{put_mid}
use Rattle.std.proofs.lemmas.List.{length-append, length-drop, length-take-le, take_all, drop_all, drop-drop, append_assoc, append-nil, take-append-drop}
use Rattle.std.proofs.lemmas.List.Elements.{All-take, All-drop}
use Rattle.std.proofs.lemmas.Bool.Decides.{nat_tests}
use Rattle.std.specs.Cmp.{IsTotalOrder, IsPartialOrder, Agrees, both_ways, Equal-is, partial_order_from_agreeing_total}
use Rattle.std.specs.Ordering.{as_partial_cmp, eq_by_cmp, is_eq}
use Rattle.runs.specs.Order.{Lawful}
use Rattle.runs.proofs.Orders.{key_lawful, lawful_total, lawful_self}
use Rattle.frames.specs.Numbers.{in_bytes, from_bytes}
use Rattle.frames.proofs.Fronts.{next_written}
use Rattle.frames.proofs.Numbers.{from_in_bytes, length_in}
use Rattle.records.specs.Records.{Readable}
use Rattle.records.specs.Layouts.{numbers_readable}
use Rattle.sample.specs.declared.record.SampleRecord.{SampleRecord}
use Rattle.sample.specs.Records.{hash_key, sample_key, by_hash, unused, sample_layout}

-- equal in all parts
pub same_record : (x y : SampleRecord) → x.item ≡ y.item → x.tenant ≡ y.tenant → x.amount ≡ y.amount → x ≡ y
same_record x y a b c = λ i. record { item = a i; tenant = b i; amount = c i }

key_apart : (x y : SampleRecord) → sample_key x ≡ sample_key y → x ≡ y
key_apart x y e =
    let a : x.item ≡ y.item = cc in
    let b : x.tenant ≡ y.tenant = cc in
    let c : x.amount ≡ y.amount = cc in
    same_record x y a b c

-- zeros alone stand in unused places
pub one_unused : (x y : SampleRecord) → T (unused x) → T (unused y) → x ≡ y
one_unused x y t u =
    let a : x.item ≡ y.item = grind (arith, nat_tests) in
    let b : x.tenant ≡ y.tenant = grind (arith, nat_tests) in
    let c : x.amount ≡ y.amount = grind (arith, nat_tests) in
    same_record x y a b c

pub hash_lawful : Lawful by_hash
hash_lawful = key_lawful sample_key key_apart

pub hash_keyed : (x y : SampleRecord) → hash_key x < hash_key y → by_hash x y ≡ Less
hash_keyed x y lt = grind (arith, nat_tests)

-- the order as the library's: total, beside its partial form, and equal exactly where records are
pub hash_total : IsTotalOrder by_hash
hash_total = lawful_total hash_lawful

pub hash_agrees : Agrees (as_partial_cmp by_hash) by_hash
hash_agrees = λ x y. refl

-- whether two records are equal, part by part
abbrev same_parts : SampleRecord → SampleRecord → Bool
same_parts x y = x.item == y.item && (x.tenant == y.tenant && x.amount == y.amount)

pub hash_matches : (x y : SampleRecord) → same_parts x y ≡ eq_by_cmp by_hash x y
hash_matches x y = both_ways (same_parts x y) (is_eq (by_hash x y)) one other
  where
    one : same_parts x y ≡ true → is_eq (by_hash x y) ≡ true
    one e =
        let a : x.item ≡ y.item = grind (arith, nat_tests) in
        let b : x.tenant ≡ y.tenant = grind (arith, nat_tests) in
        let c : x.amount ≡ y.amount = grind (arith, nat_tests) in
        ap (λ (z : SampleRecord). is_eq (by_hash x z)) (sym (same_record x y a b c)) ∙ ap is_eq (lawful_self hash_lawful x)

    other : is_eq (by_hash x y) ≡ true → same_parts x y ≡ true
    other e =
        let s : x ≡ y = hash_lawful.same x y ((Equal-is (by_hash x y)).0 e) in
        ap (λ (z : SampleRecord). same_parts x z) (sym s) ∙ grind (arith, nat_tests)

pub hash_partial : IsPartialOrder same_parts (as_partial_cmp by_hash)
hash_partial = partial_order_from_agreeing_total by_hash hash_total hash_agrees hash_matches

pub sample_readable : Readable sample_layout
sample_readable = record {
  sized = λ x.
      let a = length_in 8 x.item in
      let b = length_in 4 x.tenant in
      let c = length_in 8 x.amount in
      omega (arith, length-append (in_bytes 8 x.item) (in_bytes 4 x.tenant ++ in_bytes 8 x.amount), length-append (in_bytes 4 x.tenant) (in_bytes 8 x.amount));
  back = λ x. same_record _ x (from_in_bytes 7 x.item) (from_in_bytes 3 x.tenant) (from_in_bytes 7 x.amount);
  whole = λ bytes long small.
      let behind = All-drop (λ b. b < 256) 8 bytes small in
      let item = (numbers_readable 7).whole (take 8 bytes) (length-take-le 8 bytes (omega arith)) (All-take (λ b. b < 256) 8 bytes small) in
      let tenant = (numbers_readable 3).whole (take 4 (drop 8 bytes)) (length-take-le 4 (drop 8 bytes) (simp length-drop (omega arith))) (All-take (λ b. b < 256) 4 (drop 8 bytes) behind) in
      let amount = (numbers_readable 7).whole (drop 12 bytes) (simp length-drop (omega arith)) (All-drop (λ b. b < 256) 12 bytes small) in
      ap (λ (l : List ℕ). l ++ (in_bytes 4 (from_bytes (take 4 (drop 8 bytes))) ++ in_bytes 8 (from_bytes (drop 12 bytes)))) item
      ∙ ap (λ (l : List ℕ). take 8 bytes ++ (l ++ in_bytes 8 (from_bytes (drop 12 bytes)))) tenant
      ∙ ap (λ (l : List ℕ). take 8 bytes ++ (take 4 (drop 8 bytes) ++ l)) (amount ∙ sym (drop-drop 4 8 bytes))
      ∙ ap (λ (l : List ℕ). take 8 bytes ++ l) (take-append-drop 4 (drop 8 bytes))
      ∙ take-append-drop 8 bytes;
}

-- the three parts, written one behind the other, make up the bytes of the record
pub parts_written : (x : SampleRecord) (out a b c : List ℕ) → length out ≡ 20 → a ≡ in_bytes 8 x.item → b ≡ in_bytes 4 x.tenant → c ≡ in_bytes 8 x.amount
    → put_mid 12 8 (put_mid 8 4 (a ++ drop 8 out) b) c ≡ sample_layout.written x
parts_written x out a b c long p q r =
    let eight : length a ≡ 8 = ap length p in
    let four : length b ≡ 4 = ap length q in
    let twelve : length (a ++ b) ≡ 12 = length-append a b ∙ omega arith in
    ap (λ (l : List ℕ). put_mid 12 8 l c) (next_written a out 8 12 eight (omega arith) b)
    ∙ next_written (a ++ b) out 12 20 twelve (omega arith) c
    ∙ ap (λ (l : List ℕ). ((a ++ b) ++ c) ++ l) (drop_all 20 out (omega arith))
    ∙ append-nil ((a ++ b) ++ c)
    ∙ append_assoc a b c
    ∙ ap (λ (l : List ℕ). l ++ (b ++ c)) p
    ∙ ap (λ (l : List ℕ). in_bytes 8 x.item ++ (l ++ c)) q
    ∙ ap (λ (l : List ℕ). in_bytes 8 x.item ++ (in_bytes 4 x.tenant ++ l)) r

-- the three parts that are read from twenty bytes make up the record that they are the bytes of
pub parts_read : (x : SampleRecord) (bytes : List ℕ) → length bytes ≡ 20
    → (x.item ≡ from_bytes (take 8 bytes)) × (in_bytes 8 x.item ≡ take 8 bytes)
    → (x.tenant ≡ from_bytes (take 4 (drop 8 bytes))) × (in_bytes 4 x.tenant ≡ take 4 (drop 8 bytes))
    → (x.amount ≡ from_bytes (take 8 (drop 12 bytes))) × (in_bytes 8 x.amount ≡ take 8 (drop 12 bytes))
    → (x ≡ sample_layout.read bytes) × (sample_layout.written x ≡ bytes)
parts_read x bytes long p q r =
    let rest : take 8 (drop 12 bytes) ≡ drop 12 bytes = take_all 8 (drop 12 bytes) (simp length-drop (omega arith)) in (
      same_record x _ p.0 q.0 (r.0 ∙ ap from_bytes rest),
      ap (λ (l : List ℕ). l ++ (in_bytes 4 x.tenant ++ in_bytes 8 x.amount)) p.1
          ∙ ap (λ (l : List ℕ). take 8 bytes ++ (l ++ in_bytes 8 x.amount)) q.1
          ∙ ap (λ (l : List ℕ). take 8 bytes ++ (take 4 (drop 8 bytes) ++ l)) (r.1 ∙ rest ∙ sym (drop-drop 4 8 bytes))
          ∙ ap (λ (l : List ℕ). take 8 bytes ++ l) (take-append-drop 4 (drop 8 bytes))
          ∙ take-append-drop 8 bytes,
    )
