-- For `skip_brackets` and `skip_braced` of `Cursor`: brackets and all that stands in them, as rows.
use Rattle.std.specs.Prelude.{ℕ, ◌==◌, Bool, true, false, List, [], ◌∷◌, ◌++◌, if◌then◌else◌}
use Rattle.ir_lexer.specs.Ahead.{Located}
use Rattle.ir_terminals.specs.PhraseRows.Row.{Row, TokenMove, On, Ends, Stops, machine}
use Rattle.ir_terminals.specs.Role.{terminal}
use Rattle.ir_terminals.specs.Terminal.{code}
use Rattle.ir_terminals.specs.declared.brackets.Bracket.{Bracket}
use Rattle.ir_terminals.specs.declared.brackets.Bracket.TheVariants as brackets
use Rattle.ir_terminals.specs.declared.brackets.Role.{Role}
use Rattle.ir_terminals.specs.declared.brackets.Role.TheVariants as roles
use Rattle.ir_terminals.specs.declared.brackets.BracketTurn.{BracketTurn}
use Rattle.ir_terminals.specs.declared.brackets.BracketTurn.TheVariants as turns
use Rattle.ir_terminals.specs.declared.terminal.Terminal.{Terminal}
use Rattle.ir_terminals.specs.declared.terminal.Terminal.TheVariants as terminals

-- what a terminal is to brackets
abbrev pub role : Terminal → Role
role terminals.OpenParenthesis = roles.Opens brackets.Parenthesis
role terminals.OpenBracket = roles.Opens brackets.Square
role terminals.OpenBrace = roles.Opens brackets.Brace
role terminals.Less = roles.Opens brackets.Angle
role terminals.CloseParenthesis = roles.Closes brackets.Parenthesis
role terminals.CloseBracket = roles.Closes brackets.Square
role terminals.CloseBrace = roles.Closes brackets.Brace
role terminals.Greater = roles.Closes brackets.Angle
role _ = roles.Neither

-- the two are brackets of one form
abbrev pub is_same : Bracket → Bracket → Bool
is_same brackets.Parenthesis brackets.Parenthesis = true
is_same brackets.Square brackets.Square = true
is_same brackets.Brace brackets.Brace = true
is_same brackets.Angle brackets.Angle = true
is_same _ _ = false

-- with the last bracket closed the phrase ends
abbrev pub closed : List Bracket → TokenMove (List Bracket) (Unit {0})
closed [] = Ends tt
closed (nearest ∷ outer) = On (nearest ∷ outer)

-- What a token does to the brackets that are open, the nearest first: a bracket opens, or closes the nearest one, which
-- is of its kind; another token stands in a bracket.
abbrev pub step_by : List Bracket → Role → TokenMove (List Bracket) (Unit {0})
step_by unclosed (roles.Opens kind) = On (kind ∷ unclosed)
step_by [] (roles.Closes kind) = Stops
step_by (nearest ∷ outer) (roles.Closes kind) = if is_same nearest kind then closed outer else Stops
step_by [] roles.Neither = Stops
step_by (nearest ∷ outer) roles.Neither = On (nearest ∷ outer)

-- the classes of the opening brackets
abbrev pub opening_classes : List ℕ
opening_classes = code terminals.OpenParenthesis ∷ code terminals.OpenBracket ∷ code terminals.OpenBrace ∷ code terminals.Less ∷ []

-- an opening bracket and all up to the one that closes it, each bracket between them closed by its own kind
abbrev pub any_matched_row : Row Located (Unit {0})
any_matched_row = machine opening_classes (λ unclosed t. step_by unclosed (role (terminal t.token))) []

-- what a token does where the first one is to be of this class
abbrev pub begun_step : Terminal → List Bracket → Terminal → TokenMove (List Bracket) (Unit {0})
begun_step opening [] x = if code x == code opening then step_by [] (role x) else Stops
begun_step opening (nearest ∷ outer) x = step_by (nearest ∷ outer) (role x)

-- the same, where the opening bracket is this one
abbrev pub matched_row : Terminal → Row Located (Unit {0})
matched_row opening = machine (code opening ∷ []) (λ unclosed t. begun_step opening unclosed (terminal t.token)) []

-- what a token does behind the opening brace, or where that is to come
abbrev pub brace_step : Bool → Terminal → TokenMove Bool (Unit {0})
brace_step false terminals.OpenBrace = On true
brace_step false _ = Stops
brace_step true terminals.CloseBrace = Ends tt
brace_step true terminals.OpenBrace = Stops
brace_step true _ = On true

-- `{`, any tokens but braces, and `}`
abbrev pub braced_row : Row Located (Unit {0})
braced_row = machine (code terminals.OpenBrace ∷ []) (λ opened t. brace_step opened (terminal t.token)) false

-- the code's list of unclosed brackets has the nearest last
abbrev pub nearest_first : List Bracket → List Bracket
nearest_first [] = []
nearest_first (outermost ∷ inner) = nearest_first inner ++ outermost ∷ []

-- what a turn says of a step that left these brackets unclosed
abbrev pub move_of : BracketTurn → List Bracket → TokenMove (List Bracket) (Unit {0})
move_of turns.On unclosed = On unclosed
move_of turns.Ends unclosed = Ends tt
move_of turns.Stops unclosed = Stops
