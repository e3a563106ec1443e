use Rattle.std.proofs.Common.{ℕ, ◌<◌, All, List, take}
use Rattle.ir_run.proofs.opening.see_words.Given as goal

abbrev pub invariant-words : goal.invariant-words
invariant-words l = All (λ (w : List ℕ). All (λ b. b < 256) w) (take l.word-index l.word-items)
