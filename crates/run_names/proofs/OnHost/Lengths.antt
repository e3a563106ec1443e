-- What `strlen` comes to.
use Rattle.std.proofs.Common.{◌≡◌, ℕ, ◌-◌, List, [], ◌∷◌, ◌++◌, length, take, Option, Result, Ok, sym, ap, ◌∙◌, append-nil, arith}
use Rattle.std.proofs.lemmas.List.{length-append, take_at}
use Rattle.ir_tables.specs.declared.undefined_kind.UndefinedKind.{UndefinedKind}
use Rattle.ir_eval.specs.declared.value.Scalar.TheVariants.{Int}
use Rattle.ir_intrinsics.specs.declared.outcome.Outcome.{Outcome}
use Rattle.ir_memory.specs.Memory.{Blocks}
use Rattle.run_rules.specs.Answer.{Gives}
use Rattle.run_rules.specs.Host.{counts}
use Rattle.run_names.specs.Host.Answers.{leaves_of}

-- the bytes were added, counted and taken back
pub counted : (m : Blocks) (string : Result (List ℕ) UndefinedKind) (old new back bytes : List ℕ) (before count : ℕ) (result : Option Outcome) → string ≡ Ok bytes → new ≡ old ++ bytes
    → before ≡ length old → count ≡ length new - before → leaves_of result ≡ Int count ∷ [] → back ≡ take before new
    → (output : List ℕ) × (counts m string ≡ Gives (leaves_of result) m output) × (back ≡ old ++ output)
counted m string old new back bytes before count result is grown there long leaves taken =
    let whole : count ≡ length bytes = omega (arith, long, ap length grown, length-append old bytes, there) in (
      [],
      ap (counts m) is ∙ ap (λ l. Gives l m []) (sym (leaves ∙ ap (λ n. Int n ∷ []) whole)),
      taken ∙ ap (take before) grown ∙ take_at old bytes before (sym there) ∙ sym (append-nil old),
    )
