use Rattle.std.proofs.Common.{Some, ap, ◌∙◌}
use Rattle.module_arena.proofs.ConstantsTold.{constant_here}
use Rattle.ir_printer.proofs.instructions.calls.put_address.Goals as goal

pub returns-in-Integer : goal.returns-in-Integer
returns-in-Integer g c = rw (constant_here c.args.arena.now c.variable_count-count.ensures.good c.args.id _ (c.constant.ensures ∙ ap Some c.in-Integer.is)) c.put_signed.ensures

pub returns-in-Truth : goal.returns-in-Truth
returns-in-Truth g c = let here = constant_here c.args.arena.now c.variable_count-count.ensures.good c.args.id _ (c.constant.ensures ∙ ap Some c.in-Truth.is) in rw here (rw here at c.put_constant.ensures)

pub returns-in-Null : goal.returns-in-Null
returns-in-Null g c = let here = constant_here c.args.arena.now c.variable_count-count.ensures.good c.args.id _ (c.constant.ensures ∙ ap Some c.in-Null.is) in rw here (rw here at c.put_constant-in-Null.ensures)

pub returns-in-Undef : goal.returns-in-Undef
returns-in-Undef g c = let here = constant_here c.args.arena.now c.variable_count-count.ensures.good c.args.id _ (c.constant.ensures ∙ ap Some c.in-Undef.is) in rw here (rw here at c.put_constant-in-Undef.ensures)

pub returns-in-Poison : goal.returns-in-Poison
returns-in-Poison g c = let here = constant_here c.args.arena.now c.variable_count-count.ensures.good c.args.id _ (c.constant.ensures ∙ ap Some c.in-Poison.is) in rw here (rw here at c.put_constant-in-Poison.ensures)

pub returns-in-ZeroInitializer : goal.returns-in-ZeroInitializer
returns-in-ZeroInitializer g c = let here = constant_here c.args.arena.now c.variable_count-count.ensures.good c.args.id _ (c.constant.ensures ∙ ap Some c.in-ZeroInitializer.is) in rw here (rw here at c.put_constant-in-ZeroInitializer.ensures)

pub returns-in-Address : goal.returns-in-Address
returns-in-Address g c = let here = constant_here c.args.arena.now c.variable_count-count.ensures.good c.args.id _ (c.constant.ensures ∙ ap Some c.in-Address.is) in rw here (rw here at c.put_constant-in-Address.ensures)

pub returns-in-ByteString : goal.returns-in-ByteString
returns-in-ByteString g c = let here = constant_here c.args.arena.now c.variable_count-count.ensures.good c.args.id _ (c.constant.ensures ∙ ap Some c.in-ByteString.is) in rw here (rw here at c.put_constant-in-ByteString.ensures)

pub returns-in-Aggregate : goal.returns-in-Aggregate
returns-in-Aggregate g c = let here = constant_here c.args.arena.now c.variable_count-count.ensures.good c.args.id _ (c.constant.ensures ∙ ap Some c.in-Aggregate.is) in rw here (rw here at c.put_constant-in-Aggregate.ensures)

pub returns-in-ElementAddress : goal.returns-in-ElementAddress
returns-in-ElementAddress g c = let here = constant_here c.args.arena.now c.variable_count-count.ensures.good c.args.id _ (c.constant.ensures ∙ ap Some c.in-ElementAddress.is) in rw here (rw here at c.put_constant-in-ElementAddress.ensures)

pub returns-in-Cast : goal.returns-in-Cast
returns-in-Cast g c = let here = constant_here c.args.arena.now c.variable_count-count.ensures.good c.args.id _ (c.constant.ensures ∙ ap Some c.in-Cast.is) in rw here (rw here at c.put_constant-in-Cast.ensures)

pub returns-in-Binary : goal.returns-in-Binary
returns-in-Binary g c = let here = constant_here c.args.arena.now c.variable_count-count.ensures.good c.args.id _ (c.constant.ensures ∙ ap Some c.in-Binary.is) in rw here (rw here at c.put_constant-in-Binary.ensures)
