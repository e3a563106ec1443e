use Rattle.std.proofs.Common.{◌≡◌, ℕ, List, [], ◌++◌, sym, ◌∙◌, append-nil}
use Rattle.ir_memory.proofs.Changed.{on_err}
use Rattle.run_names.proofs.values.string.push_whole.Goals as goal

pub returns-in_err-extend_from_slice-clause-err : goal.returns-in_err-extend_from_slice-clause-err
returns-in_err-extend_from_slice-clause-err c =
    on_err c.from_residual.result ((bytes : List ℕ) × (c.extend_from_slice.new.self.items ≡ c.args.into.now.items ++ bytes))
    ([], c.in_err-extend_from_slice.ensures.items ∙ sym (append-nil c.args.into.now.items))

pub returns-clause-ok : goal.returns-clause-ok
returns-clause-ok c = (c.in-Some.bytes.now, c.in-Some.ensures, c.in_ok-extend_from_slice.ensures.items)
