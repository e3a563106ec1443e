use Rattle.std.proofs.Common.{◌≡◌, ◌⊎◌, ℕ, false, IfErr, IfOk, List, sym, subst, ◌∙◌}
use Rattle.module_arena.specs.View.{module_of}
use Rattle.tool_output.specs.declared.ends.ended.Ended.TheVariants as ends
use Rattle.tool_cli.specs.Judged.{IsPartRefused, is_bitcode}
use Rattle.tool_cli.specs.Made.{IsPart}
use Rattle.tool_cli.proofs.Linked.{bitcode_found, bitcode_unfound, text_part, text_unfound}
use Rattle.tool_cli.proofs.parts.accepted_part.Goals as goal

pub accepted_bitcode-requires : goal.accepted_bitcode-requires
accepted_bitcode-requires c = rw c.bytes-read.ensures c.requires

pub returns-then-is_bitcode-clause-part : goal.returns-then-is_bitcode-clause-part
returns-then-is_bitcode-clause-part c =
    subst (λ (input : List ℕ). IfOk c.accepted_bitcode.result (λ checked. IsPart input (module_of checked))) c.bytes-read.ensures
    (bitcode_found c.bytes-read.result.now c.accepted_bitcode.result (sym c.is_bitcode.ensures ∙ c.if-is_bitcode.true) c.accepted_bitcode.ensures.module)

pub returns-then-is_bitcode-clause-refused : goal.returns-then-is_bitcode-clause-refused
returns-then-is_bitcode-clause-refused c =
    subst (λ (input : List ℕ). IfErr c.accepted_bitcode.result (λ ended. IsPartRefused c.args.name.now input ended ⊎ (ended ≡ ends.Memory))) c.bytes-read.ensures
    (bitcode_unfound c.args.name.now c.bytes-read.result.now c.accepted_bitcode.result (sym c.is_bitcode.ensures ∙ c.if-is_bitcode.true) c.accepted_bitcode.ensures.refused)

pub returns-in-Ok-clause-part : goal.returns-in-Ok-clause-part
returns-in-Ok-clause-part c =
    subst (IsPart c.args.input) (sym c.module_alone.ensures)
    (text_part c.args.input _ _ (subst (λ (input : List ℕ). is_bitcode input ≡ false) c.bytes-read.ensures (sym c.is_bitcode.ensures ∙ c.if-is_bitcode.false)) c.in-Ok.ensures.module)

pub returns-in-Err-clause-refused : goal.returns-in-Err-clause-refused
returns-in-Err-clause-refused c =
    text_unfound c.args.name.now c.args.input c.in-Err.ended (subst (λ (input : List ℕ). is_bitcode input ≡ false) c.bytes-read.ensures (sym c.is_bitcode.ensures ∙ c.if-is_bitcode.false)) c.in-Err.ensures.refused
