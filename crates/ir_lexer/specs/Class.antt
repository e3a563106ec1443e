-- For `next` of `Lexer`: the classes of bytes, by what they may do in a token.
use Rattle.std.specs.Prelude.{ℕ, Bool, true, false, ◌==◌, ◌&&◌, ◌||◌, nat_le, if◌then◌else◌, List, [], ◌∷◌}
use Rattle.ir_lexer.specs.declared.class.Class.{Class}
use Rattle.ir_lexer.specs.declared.class.Class.TheVariants.{LetterC, Letter, Underscore, Digit, Minus, Dollar, Dot, Quote, At, Percent, Bang, Hash, Colon, Mark, Semicolon, LineFeed, Blank, Other}
use Rattle.ir_lexer.specs.declared.class.ClassSet.{ClassSet}
use Rattle.ir_lexer.specs.declared.class.ClassSet.TheVariants as sets

-- the byte is from the one to the other
abbrev pub from_to : ℕ → ℕ → ℕ → Bool
from_to low high b = nat_le low b && nat_le b high

-- the byte is one of these
abbrev pub one_of : List ℕ → ℕ → Bool
one_of [] b = false
one_of (x ∷ xs) b = (b == x) || one_of xs b

-- the class of a byte, by its ASCII code; `c` stands apart from the other letters, since it begins a byte string
unfoldable pub byte_class : ℕ → Class
byte_class b =
    if b == 99 then LetterC
    else (if from_to 97 122 b || from_to 65 90 b then Letter
    else (if b == 95 then Underscore
    else (if from_to 48 57 b then Digit
    else (if b == 45 then Minus
    else (if b == 36 then Dollar
    else (if b == 46 then Dot
    else (if b == 34 then Quote
    else (if b == 64 then At
    else (if b == 37 then Percent
    else (if b == 33 then Bang
    else (if b == 35 then Hash
    else (if b == 58 then Colon
    else (if one_of (61 ∷ 44 ∷ 40 ∷ 41 ∷ 91 ∷ 93 ∷ 123 ∷ 125 ∷ 60 ∷ 62 ∷ 42 ∷ 124 ∷ []) b then Mark
    else (if b == 59 then Semicolon
    else (if b == 10 then LineFeed
    else (if one_of (32 ∷ 9 ∷ 13 ∷ []) b then Blank
    else Other))))))))))))))))

-- a letter
abbrev pub is_letter : Class → Bool
is_letter Letter = true
is_letter LetterC = true
is_letter _ = false

-- what a word begins with, and what goes on with it
abbrev pub starts_word : Class → Bool
starts_word Underscore = true
starts_word c = is_letter c

-- what goes on with a word
abbrev pub in_word : Class → Bool
in_word Digit = true
in_word c = starts_word c

-- what an identifier begins with, and what goes on with it or with a label
abbrev pub starts_name : Class → Bool
starts_name Minus = true
starts_name Dollar = true
starts_name Dot = true
starts_name c = starts_word c

-- what goes on with an identifier or with a label
abbrev pub in_name : Class → Bool
in_name Digit = true
in_name c = starts_name c

-- a digit
abbrev pub is_digit : Class → Bool
is_digit Digit = true
is_digit _ = false

-- `-`
abbrev pub is_minus : Class → Bool
is_minus Minus = true
is_minus _ = false

-- `.`
abbrev pub is_dot : Class → Bool
is_dot Dot = true
is_dot _ = false

-- `"`
abbrev pub is_quote : Class → Bool
is_quote Quote = true
is_quote _ = false

-- anything but `"`
abbrev pub no_quote : Class → Bool
no_quote Quote = false
no_quote _ = true

-- `@`
abbrev pub is_at : Class → Bool
is_at At = true
is_at _ = false

-- `%`
abbrev pub is_percent : Class → Bool
is_percent Percent = true
is_percent _ = false

-- `!`
abbrev pub is_bang : Class → Bool
is_bang Bang = true
is_bang _ = false

-- `#`
abbrev pub is_hash : Class → Bool
is_hash Hash = true
is_hash _ = false

-- `:`
abbrev pub is_colon : Class → Bool
is_colon Colon = true
is_colon _ = false

-- a mark or `:`
abbrev pub is_punctuation : Class → Bool
is_punctuation Mark = true
is_punctuation Colon = true
is_punctuation _ = false

-- `c`
abbrev pub is_c : Class → Bool
is_c LetterC = true
is_c _ = false

-- what separates tokens
abbrev pub is_blank : Class → Bool
is_blank Blank = true
is_blank LineFeed = true
is_blank _ = false

-- `;`
abbrev pub is_semicolon : Class → Bool
is_semicolon Semicolon = true
is_semicolon _ = false

-- a line feed
abbrev pub is_line_feed : Class → Bool
is_line_feed LineFeed = true
is_line_feed _ = false

-- anything but a line feed
abbrev pub in_line : Class → Bool
in_line LineFeed = false
in_line _ = true

-- whether a byte of the class stands at the front
abbrev pub starts_with : (Class → Bool) → List ℕ → Bool
starts_with p [] = false
starts_with p (b ∷ s) = p (byte_class b)

-- the sets of classes that the code names
abbrev pub set_of : ClassSet → Class → Bool
set_of sets.InName = in_name
set_of sets.InWord = in_word
set_of sets.StartsName = starts_name
set_of sets.Digits = is_digit
set_of sets.Letters = is_letter
set_of sets.Dots = is_dot
set_of sets.NoQuote = no_quote
set_of sets.Quotes = is_quote
set_of sets.Colons = is_colon
set_of sets.InLine = in_line
