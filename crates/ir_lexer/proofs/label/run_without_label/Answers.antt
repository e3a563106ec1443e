use Rattle.std.proofs.Common.{◌+◌, arith}
use Rattle.ir_lexer.specs.Class.{in_name}
use Rattle.ir_lexer.proofs.KnownRuns.{run_in_two, no_colon_behind}
use Rattle.ir_lexer.proofs.Runs.{run_le}
use Rattle.ir_lexer.specs.Class as class
use Rattle.ir_lexer.proofs.label.run_without_label.Goals as goal

pub slice_bounds-run_of-count : goal.slice_bounds-run_of-count
slice_bounds-run_of-count c = omega (arith, c.requires, run_le class.in_word c.args.text.now)

pub slice_bounds-run_of-start : goal.slice_bounds-run_of-start
slice_bounds-run_of-start c = omega (arith, c.requires, run_le class.in_word c.args.text.now)

pub slice_bounds-begins-count : goal.slice_bounds-begins-count
slice_bounds-begins-count c =
    let s = c.args.text.now in
    omega (arith, run_in_two c.args.word c.run_of.result s c.requires c.run_of.ensures.count, run_le in_name s)

pub slice_bounds-begins-start : goal.slice_bounds-begins-start
slice_bounds-begins-start c =
    let s = c.args.text.now in
    omega (arith, run_in_two c.args.word c.run_of.result s c.requires c.run_of.ensures.count, run_le in_name s)

pub returns-else-begins-clause-known : goal.returns-else-begins-clause-known
returns-else-begins-clause-known c some =
    let s = c.args.text.now in
    record {
      length_is = run_in_two c.args.word c.run_of.result s c.requires c.run_of.ensures.count;
      no_colon = no_colon_behind (c.args.word + c.run_of.result) s c.begins.result c.if-begins.false c.begins.ensures;
    }

pub returns-else-begins-clause-in_text :
    goal.returns-else-begins-clause-in_text
returns-else-begins-clause-in_text c =
    let s = c.args.text.now in
    omega (arith, run_in_two c.args.word c.run_of.result s c.requires c.run_of.ensures.count, run_le in_name s)
