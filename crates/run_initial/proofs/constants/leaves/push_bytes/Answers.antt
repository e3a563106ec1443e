use Rattle.std.proofs.Common.{ℕ, [], ◌∷◌, get_or, map, refl, arith}
use Rattle.std.proofs.lemmas.List.{get_or_default}
use Rattle.ir_eval.specs.declared.value.Scalar.TheVariants as scalar
use Rattle.run_initial.proofs.OnConstants.Appended.{part_end, part_more}
use Rattle.run_initial.proofs.constants.leaves.push_bytes.Goals as goal

pub bytes-preserved : goal.bytes-preserved
bytes-preserved c =
    let xs = c.args.bytes.now in
    let x = get_or xs c.bytes.byte-index 0 in
    part_more (map scalar.Int) (λ (n : ℕ). scalar.Int n ∷ []) (λ y ys. refl) xs c.bytes.byte-index x _ _ _ c.bytes-test.true (get_or_default xs c.bytes.byte-index 0 x c.bytes-test.true) c.bytes.invariant c.in_ok-push_byte.ensures

pub returns : goal.returns
returns c = part_end (map scalar.Int) (λ (n : ℕ). scalar.Int n ∷ []) (λ y ys. refl) refl c.args.bytes.now c.bytes.byte-index _ _ (omega arith) c.bytes.invariant
