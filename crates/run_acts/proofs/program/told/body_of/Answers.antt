use Rattle.std.proofs.Common.{◌≡◌, ℕ, Result, Ok, Err, IfOk}
use Rattle.module_arena.specs.Lists.{Lists}
use Rattle.module_arena.specs.View.{module_of}
use Rattle.run_decode.specs.Body.Bodies.{AreNarrow, Decoded, look_of}
use Rattle.run_names.specs.Told.{alone}
use Rattle.run_rules.specs.Look.{look}
use Rattle.run_decode.specs.Signatures.Met.{Met}
use Rattle.run_decode.specs.Signatures.Numbers.{AreNumbered}
use Rattle.run_acts.specs.Program.Loaded.{IsBodyOf}
use Rattle.run_acts.proofs.program.told.body_of.Goals as goal

-- what is told of a body that was made
body_told : {E : Type 0} (a : Lists) (met : Met) (id : ℕ) (r : Result Decoded E) → IfOk r (λ b. b.lists ≡ a) → IfOk r (λ b. (block position : ℕ) → look_of b block position ≡ look (alone (module_of a)) id block position)
    → IfOk r (λ b. AreNarrow b.pools b.widest) → IfOk r (λ b. AreNumbered met a b.pools) → IfOk r (IsBodyOf a met id)
body_told a met id (Ok b) lists looked narrow numbered = record { lists = lists; look = looked; narrow = narrow; numbered = numbered }
body_told a met id (Err e) lists looked narrow numbered = tt

pub returns-clause-body : goal.returns-clause-body
returns-clause-body c =
    body_told c.args.names.now c.decode.new.signatures c.args.id c.decode.result c.decode.ensures.lists c.decode.ensures.look c.decode.ensures.narrow c.decode.ensures.numbered
