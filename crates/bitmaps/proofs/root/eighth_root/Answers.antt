use Rattle.std.proofs.Common.{◌≡◌, ℕ, ◌+◌, ◌*◌, ◌%◌, ◌^◌, ◌<◌, ◌≤◌, arith}
use native.Mathlib.Nat.{pow-le-pow_left}
use Rattle.std.proofs.lemmas.Nat.{one_shl}
use Rattle.bitmaps.proofs.Roots.{root_first, root_below, root_last}
use Rattle.bitmaps.proofs.root.eighth_root.Goals as goal

-- the limit is the power
limit : (j : ℕ) → j < 8 → (1 * 2 ^ (j + 48)) % 2 ^ 64 ≡ 2 ^ (j + 48)
limit j lt = one_shl (j + 48) 64 (omega arith)

pub loop-t-init : goal.loop-t-init
loop-t-init c = (omega arith, root_first c.args.j)

pub pow-requires : goal.pow-requires
pow-requires c =
    let le : c.loop-t.t + 1 ≤ 128 = omega (arith, c.loop-t.invariant.0) in
    let p : (c.loop-t.t + 1) ^ 8 ≤ 128 ^ 8 = pow-le-pow_left le 8 in
    omega arith

pub loop-t-preserved : goal.loop-t-preserved
loop-t-preserved c =
    let root : (c.loop-t.t + 1) ^ 8 ≤ 2 ^ (c.args.j + 48) = omega (arith, c.loop-t-test.true, c.pow.ensures, limit c.args.j c.requires) in
    (root_below c.args.j (c.loop-t.t + 1) c.requires root, root)

pub returns : goal.returns
returns c = root_last c.args.j c.loop-t.t c.loop-t.invariant.1 (omega (arith, c.loop-t-test.false, c.pow.ensures, limit c.args.j c.requires))
