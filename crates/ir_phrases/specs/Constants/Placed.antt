-- For `constant_of` and `type_of`: a token for what its terminal stands for, and its place.
use Rattle.std.specs.Prelude.{ℕ, List, Option, option_map}
use Rattle.ir_terminals.specs.PhraseRows.Row.{Row, one}
use Rattle.ir_base.specs.declared.place.Place.{Place}
use Rattle.ir_lexer.specs.Ahead.{Located}
use Rattle.ir_terminals.specs.Role.{class, terminal}
use Rattle.ir_terminals.specs.declared.terminal.Terminal.{Terminal}

-- what the token stands for, where it stands for something, and the token's place
abbrev pub placed_by : {A : Type 0} → (Terminal → Option A) → Located → Option (A × Place)
placed_by meaning t = option_map (λ a. (a, t.place)) (meaning (terminal t.token))

-- one token of these classes that stands for something, and its place
abbrev pub token_with_place : {A : Type 0} → List ℕ → (Terminal → Option A) → Row Located (A × Place)
token_with_place classes meaning = one class classes (placed_by meaning)
