-- For the calls that move a `Cursor`: what such a call gives.
use Rattle.std.specs.Prelude.{◌≡◌, Result, Ok, Err}
use Rattle.ir_lexer.specs.Ahead.{Located}
use Rattle.ir_terminals.specs.PhraseRows.Row.{Reading, Done, Bad, Row}
use Rattle.ir_terminals.specs.Position.{Position, tokens_left}
use Rattle.ir_terminals.specs.declared.fault.Fault.{Fault}
use Rattle.ir_terminals.specs.declared.fault.Fault.TheVariants as faults
use Rattle.ir_terminals.specs.declared.limits.Limits.{Limits}

-- What reading gives is given: its value, seen by the view, and the tokens that it leaves are left; or the tokens from
-- the first bad one on are. The text and the limits are the same. Want of memory says nothing.
abbrev pub Moves : {X A : Type 0} → (X → A) → Position → Result X Fault → Position → Reading Located A → Type 0
Moves view old (Ok x) new r = (r ≡ Done (view x) (tokens_left new)) × (new.limits ≡ old.limits) × (new.text ≡ old.text)
Moves view old (Err faults.Memory) new r = Unit {0}
Moves view old (Err faults.Refused) new r = (r ≡ Bad (tokens_left new)) × (new.limits ≡ old.limits) × (new.text ≡ old.text)

-- the call reads the row at the cursor
abbrev pub Follows : {X A : Type 0} → (Limits → Row Located A) → (X → A) → Position → Result X Fault → Position → Type 0
Follows row view old result new = Moves view old result new ((row old.limits).run (tokens_left old))
