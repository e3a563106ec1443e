use Rattle.std.proofs.Common.{◌∙◌}
use Rattle.run_initial.proofs.OnContents.Known.{list_told}
use Rattle.run_initial.proofs.contents.contents.is_list.Goals as goal

pub returns-in-Aggregate : goal.returns-in-Aggregate
returns-in-Aggregate c = list_told c.args.names.now c.arena-arena.result.now (c.arena-arena.ensures.arena ∙ c.program.ensures) c.variable_count-count.ensures.good c.args.id c.constant.result.now _ c.requires c.constant.ensures c.in-Aggregate.is

pub returns-in-Integer : goal.returns-in-Integer
returns-in-Integer c = list_told c.args.names.now c.arena-arena.result.now (c.arena-arena.ensures.arena ∙ c.program.ensures) c.variable_count-count.ensures.good c.args.id c.constant.result.now _ c.requires c.constant.ensures c.in-Integer.is

pub returns-in-Truth : goal.returns-in-Truth
returns-in-Truth c = list_told c.args.names.now c.arena-arena.result.now (c.arena-arena.ensures.arena ∙ c.program.ensures) c.variable_count-count.ensures.good c.args.id c.constant.result.now _ c.requires c.constant.ensures c.in-Truth.is

pub returns-in-Null : goal.returns-in-Null
returns-in-Null c = list_told c.args.names.now c.arena-arena.result.now (c.arena-arena.ensures.arena ∙ c.program.ensures) c.variable_count-count.ensures.good c.args.id c.constant.result.now _ c.requires c.constant.ensures c.in-Null.is

pub returns-in-Undef : goal.returns-in-Undef
returns-in-Undef c = list_told c.args.names.now c.arena-arena.result.now (c.arena-arena.ensures.arena ∙ c.program.ensures) c.variable_count-count.ensures.good c.args.id c.constant.result.now _ c.requires c.constant.ensures c.in-Undef.is

pub returns-in-Poison : goal.returns-in-Poison
returns-in-Poison c = list_told c.args.names.now c.arena-arena.result.now (c.arena-arena.ensures.arena ∙ c.program.ensures) c.variable_count-count.ensures.good c.args.id c.constant.result.now _ c.requires c.constant.ensures c.in-Poison.is

pub returns-in-ZeroInitializer : goal.returns-in-ZeroInitializer
returns-in-ZeroInitializer c = list_told c.args.names.now c.arena-arena.result.now (c.arena-arena.ensures.arena ∙ c.program.ensures) c.variable_count-count.ensures.good c.args.id c.constant.result.now _ c.requires c.constant.ensures c.in-ZeroInitializer.is

pub returns-in-Address : goal.returns-in-Address
returns-in-Address c = list_told c.args.names.now c.arena-arena.result.now (c.arena-arena.ensures.arena ∙ c.program.ensures) c.variable_count-count.ensures.good c.args.id c.constant.result.now _ c.requires c.constant.ensures c.in-Address.is

pub returns-in-ByteString : goal.returns-in-ByteString
returns-in-ByteString c = list_told c.args.names.now c.arena-arena.result.now (c.arena-arena.ensures.arena ∙ c.program.ensures) c.variable_count-count.ensures.good c.args.id c.constant.result.now _ c.requires c.constant.ensures c.in-ByteString.is

pub returns-in-ElementAddress : goal.returns-in-ElementAddress
returns-in-ElementAddress c = list_told c.args.names.now c.arena-arena.result.now (c.arena-arena.ensures.arena ∙ c.program.ensures) c.variable_count-count.ensures.good c.args.id c.constant.result.now _ c.requires c.constant.ensures c.in-ElementAddress.is

pub returns-in-Cast : goal.returns-in-Cast
returns-in-Cast c = list_told c.args.names.now c.arena-arena.result.now (c.arena-arena.ensures.arena ∙ c.program.ensures) c.variable_count-count.ensures.good c.args.id c.constant.result.now _ c.requires c.constant.ensures c.in-Cast.is

pub returns-in-Binary : goal.returns-in-Binary
returns-in-Binary c = list_told c.args.names.now c.arena-arena.result.now (c.arena-arena.ensures.arena ∙ c.program.ensures) c.variable_count-count.ensures.good c.args.id c.constant.result.now _ c.requires c.constant.ensures c.in-Binary.is
