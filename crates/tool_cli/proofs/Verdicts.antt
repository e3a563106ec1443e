-- The module of a text, judged.
use Rattle.std.proofs.Common.{◌≡◌, ◌⊎◌, inl, inr, ℕ, List, Err, sym, ap, ◌∙◌}
use Rattle.ir_syntax.specs.Answers.{HasItems}
use Rattle.ir_syntax.specs.Tree.{ItemTree}
use Rattle.module_arena.specs.Module.{Module}
use Rattle.name_rules.specs.ModuleOf.{module_of_items}
use Rattle.name_rules.specs.Reads.{Reads, Resolves}
use Rattle.entry_verify.specs.declared.types.fault.VerifyFault.{VerifyFault}
use Rattle.entry_verify.specs.declared.types.fault.VerifyFault.TheVariants as verdicts
use Rattle.path_verify.specs.Verified.{Verifies}
use Rattle.tool_output.specs.declared.ends.ended.Ended.{Ended}
use Rattle.tool_output.specs.declared.ends.ended.Ended.TheVariants.{Memory}
use Rattle.tool_cli.specs.Judged.{IsTextRefused, verdict_told}

-- a refusal of the module is one of its text
pub refused_so : (name text : List ℕ) (items : List ItemTree) (m : Module) (fault : VerifyFault) (ended : Ended) → HasItems text items → Resolves items m → Verifies {T = Unit {0}} m (Err fault) → (ended ≡ verdict_told name fault) ⊎ (ended ≡ Memory) → IsTextRefused name text ended ⊎ (ended ≡ Memory)
refused_so name text items m fault ended has resolves refused (inr none) = inr none
refused_so name text items m verdicts.Memory ended has resolves refused (inl told) = inr told
refused_so name text items m (verdicts.FunctionTooLarge function size) ended has resolves refused (inl told) =
    inl (inr (inr (record { items = items; has_items = has; meant = m; resolves = resolves; fault = verdicts.FunctionTooLarge function size; refused = refused; told = told })))
refused_so name text items m (verdicts.Invalid rule entity) ended has resolves refused (inl told) =
    inl (inr (inr (record { items = items; has_items = has; meant = m; resolves = resolves; fault = verdicts.Invalid rule entity; refused = refused; told = told })))

-- a text that has no other items has no other module
pub only_module : (text : List ℕ) (items : List ItemTree) (meant : Module) → ((others : List ItemTree) → HasItems text others → others ≡ items) → Resolves items meant → (m : Module) → Reads text m → m ≡ meant
only_module text items meant only resolves m reads = reads.resolves.joined ∙ ap module_of_items (only reads.items reads.has_items) ∙ sym resolves.joined
