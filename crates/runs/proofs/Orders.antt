-- The order by a key is lawful, that of numbers by size among them.
use Rattle.std.proofs.Common.{◌≡◌, ℕ, List, [], ◌∷◌, Ordering, Less, Equal, Greater, refl, ap, arith}
use Rattle.std.specs.Cmp.{IsTotalOrder}
use Rattle.std.specs.Ordering.{ordering_reverse}
use Rattle.std.proofs.lemmas.Bool.Decides.{nat_tests}
use Rattle.runs.specs.Order.{Lawful, ranked, by_key, by_size}

-- one number of a key, before what decides where it is equal
ranked_same : (m n : ℕ) (rest : Ordering) → ranked m n rest ≡ Equal → (m ≡ n) × (rest ≡ Equal)
ranked_same m n rest h = grind (arith, nat_tests)

ranked_turns : (m n : ℕ) (one other : Ordering) → other ≡ ordering_reverse one → ranked n m other ≡ ordering_reverse (ranked m n one)
ranked_turns m n one other e = grind (arith, nat_tests)

ranked_trans : (l m n : ℕ) (p q r : Ordering) → (p ≡ Less → q ≡ Less → r ≡ Less) → ranked l m p ≡ Less → ranked m n q ≡ Less → ranked l n r ≡ Less
ranked_trans l m n p q r f h k = grind (arith, nat_tests)

key_same : (ms ns : List ℕ) → by_key ms ns ≡ Equal → ms ≡ ns
key_same [] [] h = refl
key_same [] (n ∷ ns) h = let z : ◌≡◌ {A = ℕ} 0 1 = cc in absurd (omega arith)
key_same (m ∷ ms) [] h = let z : ◌≡◌ {A = ℕ} 0 1 = cc in absurd (omega arith)
key_same (m ∷ ms) (n ∷ ns) h =
    let e = ranked_same m n (by_key ms ns) h in
    let rest = key_same ms ns e.1 in
    cc e.0

key_turns : (ms ns : List ℕ) → by_key ns ms ≡ ordering_reverse (by_key ms ns)
key_turns [] [] = refl
key_turns [] (n ∷ ns) = refl
key_turns (m ∷ ms) [] = refl
key_turns (m ∷ ms) (n ∷ ns) = ranked_turns m n (by_key ms ns) (by_key ns ms) (key_turns ms ns)

key_trans : (ls ms ns : List ℕ) → by_key ls ms ≡ Less → by_key ms ns ≡ Less → by_key ls ns ≡ Less
key_trans [] [] ns h k = k
key_trans [] (m ∷ ms) [] h k = cc
key_trans [] (m ∷ ms) (n ∷ ns) h k = refl
key_trans (l ∷ ls) [] ns h k = cc
key_trans (l ∷ ls) (m ∷ ms) [] h k = k
key_trans (l ∷ ls) (m ∷ ms) (n ∷ ns) h k = ranked_trans l m n (by_key ls ms) (by_key ms ns) (by_key ls ns) (key_trans ls ms ns) h k

-- a key that differs wherever elements do
pub key_lawful : {E : Type 0} (key : E → List ℕ) → ((x y : E) → key x ≡ key y → x ≡ y) → Lawful (λ x y. by_key (key x) (key y))
key_lawful key apart = record {
  same = λ x y h. apart x y (key_same (key x) (key y) h);
  turns = λ x y. key_turns (key x) (key y);
  trans = λ x y z h k. key_trans (key x) (key y) (key z) h k;
}

pub size_lawful : Lawful by_size
size_lawful = record {
  same = λ x y h. grind (arith, nat_tests);
  turns = λ x y. grind (arith, nat_tests);
  trans = λ x y z h k. grind (arith, nat_tests);
}

-- a lawful order is total, as the library says it
pub lawful_total : {E : Type 0} {order : E → E → Ordering} → Lawful order → IsTotalOrder order
lawful_total {E} {order} laws = record {
  antisymm = λ x y. laws.turns y x;
  trans = laws.trans;
  congr = λ x y z e. ap (λ (w : E). order w z) (laws.same x y e);
}

-- and answers equal of an element and itself
pub lawful_self : {E : Type 0} {order : E → E → Ordering} → Lawful order → (x : E) → order x x ≡ Equal
lawful_self {E} {order} laws x = own (order x x) (laws.turns x x)
  where
    own : (o : Ordering) → o ≡ ordering_reverse o → o ≡ Equal
    own Less e = cc
    own Equal e = refl
    own Greater e = cc
