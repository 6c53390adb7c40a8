use Rattle.std.proofs.Common.{◌≡◌, ◌<◌, ltb, true, false, length, get_or, map, sym, ap, ◌∙◌, subst, arith, rules}
use Rattle.std.proofs.lemmas.List.Sorted.{IsPartitionedBy-ltb, IsPartitionPoint-from_clause}
use Rattle.std.proofs.lemmas.List.{length-map}
use Rattle.std.specs.List.Sorted.{IsNonDecreasingBy, IsPartitionPoint}
use Rattle.runs.proofs.Entering.{keys_sorted, keys_before}
use Rattle.runs.proofs.union.passed.Goals as goal

pub returns-in-Some-clause-begins : goal.returns-in-Some-clause-begins
returns-in-Some-clause-begins g c =
    let order = g.E.Ord.cmp in
    let laws = g.met.E.Element.lawful in
    let key = g.E.Element.key in
    let keyed = g.met.E.Element.keyed in
    let a = c.args.a.now in
    let b = c.args.b.now in
    let first = c.in-Some.first.now in
    let at = c.partition_point.result in
    let up : IsNonDecreasingBy (λ m. m) a.keys.now = subst (λ ks. IsNonDecreasingBy (λ m. m) ks) (sym a.right) (keys_sorted order laws key keyed a.items.now c.requires) in
    let cut : IsPartitionPoint (λ m. ltb m first ≡ true) (λ m. ltb m first ≡ false) a.keys.now at =
    IsPartitionPoint-from_clause (λ m. ltb m first) a.keys.now at c.partition_point.ensures.partitioned (IsPartitionedBy-ltb (λ m. m) a.keys.now first up) (λ x r f k. search rules) in
    let below = subst (λ ks. IsPartitionPoint (λ m. ltb m first ≡ true) (λ m. ltb m first ≡ false) ks at) a.right cut in
    let long : length a.keys.now ≡ length a.items.now = ap length a.right ∙ length-map a.items.now key in
    let longer : length b.keys.now ≡ length b.items.now = ap length b.right ∙ length-map b.items.now key in
    let some : 0 < length b.items.now = omega (arith, c.in-Some.ensures.item.3.0, longer) in
    let is : first ≡ get_or (map key b.items.now) 0 first = subst (λ ks. first ≡ get_or ks 0 first) b.right c.in-Some.ensures.item.1 in
    keys_before order laws key keyed a.items.now b.items.now first at (omega (arith, c.partition_point.ensures.bound, long)) some is below.0
