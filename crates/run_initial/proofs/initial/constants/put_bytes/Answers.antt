use Rattle.std.proofs.Common.{◌≡◌, ℕ, ◌+◌, [], ◌∷◌, Ok, length, drop, get_or, refl, sym, ap, ◌∙◌, subst, arith}
use Rattle.std.proofs.lemmas.List.{get_or_default}
use Rattle.ir_eval.specs.declared.value.Scalar.TheVariants as scalar
use Rattle.ir_memory.specs.declared.leaf.Leaf.TheVariants as leaf
use Rattle.ir_memory.specs.Given.{IsBlock}
use Rattle.run_rules.specs.Plan.{Contents}
use Rattle.run_initial.specs.Initial.Constants.{bytes_at}
use Rattle.run_initial.specs.declared.initial.leaf.Target.{Target}
use Rattle.run_initial.specs.Initial.Fresh.{put}
use Rattle.run_initial.proofs.OnInitial.Puts.{bytes_next, bytes_none, kept_on, part_end, part_more, part_refused, refused_on}
use Rattle.run_initial.proofs.initial.constants.put_bytes.Goals as goal

pub bytes-init : goal.bytes-init
bytes-init c = record {
  put = let same : c.args.target.offset + 0 ≡ c.args.target.offset = omega arith in ap (λ (n : ℕ). put c.args.target.block (bytes_at n c.args.bytes.now) c.args.memory.now) same;
  kept = (refl, refl);
}

pub put_byte-requires : goal.put_byte-requires
put_byte-requires c =
    let count = c.bytes.invariant.kept.0 in
    subst (λ (t : Target). IsBlock (length c.bytes.memory.list) t.block.block) (sym c.further.ensures) (subst (λ (n : ℕ). IsBlock n c.args.target.block.block) (sym count) c.requires.block)

pub bytes-preserved : goal.bytes-preserved
bytes-preserved c =
    let p = c.args.target.block in
    let at = c.args.target.offset in
    let bytes = c.args.bytes.now in
    let k = c.bytes.place in
    let b = get_or bytes k 0 in
    let one : ℕ → Contents = λ n. (record { offset = n; leaf = leaf.Int 8 }, scalar.Int b) ∷ [] in
    let e = subst (λ (t : Target). put t.block (one t.offset) c.bytes.memory ≡ Ok c.put_byte.new.memory) c.further.ensures c.in_ok-put_byte.ensures.put in
    record {
      put = part_more p (one (at + k)) (bytes_at (at + (k + 1)) (drop (k + 1) bytes)) (bytes_at (at + k) (drop k bytes)) c.bytes.memory c.put_byte.new.memory (put p (bytes_at at bytes) c.args.memory.now)
          (bytes_next bytes k at b c.bytes-test.true (get_or_default bytes k 0 b c.bytes-test.true)) c.bytes.invariant.put e;
      kept = kept_on c.args.memory.now c.bytes.memory c.put_byte.new.memory c.bytes.invariant.kept c.in_ok-put_byte.ensures.kept;
    }

pub returns-in_err-put_byte-clause-put : goal.returns-in_err-put_byte-clause-put
returns-in_err-put_byte-clause-put c =
    let p = c.args.target.block in
    let at = c.args.target.offset in
    let bytes = c.args.bytes.now in
    let k = c.bytes.place in
    let b = get_or bytes k 0 in
    let one : ℕ → Contents = λ n. (record { offset = n; leaf = leaf.Int 8 }, scalar.Int b) ∷ [] in
    let all = put p (bytes_at at bytes) c.args.memory.now in
    refused_on all (put c.further.result.block (one c.further.result.offset) c.bytes.memory) c.put_byte.new.memory c.put_byte.new.memory c.from_residual.result _ c.from_residual.ensures.0 c.from_residual.ensures.1 c.in_err-put_byte.ensures.put
    (λ kind e.
    part_refused p (one (at + k)) (bytes_at (at + (k + 1)) (drop (k + 1) bytes)) (bytes_at (at + k) (drop k bytes)) c.bytes.memory all (bytes_next bytes k at b c.bytes-test.true (get_or_default bytes k 0 b c.bytes-test.true)) c.bytes.invariant.put kind
    (ap (λ (t : Target). put t.block (one t.offset) c.bytes.memory) (sym c.further.ensures) ∙ e))

pub returns-clause-put : goal.returns-clause-put
returns-clause-put c =
    let at = c.args.target.offset in
    part_end c.args.target.block (bytes_at (at + c.bytes.place) (drop c.bytes.place c.args.bytes.now)) c.bytes.memory (put c.args.target.block (bytes_at at c.args.bytes.now) c.args.memory.now)
    (bytes_none c.args.bytes.now c.bytes.place at c.bytes-test.false) c.bytes.invariant.put
