-- Closed examples.
use Rattle.std.proofs.Common.{◌≡◌, [], ◌∷◌, true, false, Some, None, refl}
use Rattle.std.specs.Prelude.{codes}
use Rattle.ir_lexer.specs.Class.{byte_class}
use Rattle.ir_lexer.specs.Form.{run}
use Rattle.ir_lexer.specs.Quoted.{digit_value, unescaped, decode}
use Rattle.ir_lexer.specs.Front.{next_token}
use Rattle.ir_lexer.specs.Table.{Word, Label, Quoted}
use Rattle.ir_lexer.specs.Pieces.{can_follow, AreSound, Space, Line, Indented}
use Rattle.ir_lexer.specs.declared.token.TokenKind.TheVariants as k

plain_label : next_token (codes "5: ret") ≡ Some (k.Label, 2)
unfolding next_token byte_class run
plain_label = refl

no_label : next_token (codes "a-1 :") ≡ Some (k.Word, 1)
unfolding next_token byte_class run
no_label = refl

quoted_label : next_token (codes "\"a b\": ret") ≡ Some (k.Label, 6)
unfolding next_token byte_class run decode unescaped digit_value
quoted_label = refl

empty_string : next_token (codes "\"\": ret") ≡ Some (k.Quoted, 2)
unfolding next_token byte_class run decode unescaped digit_value
empty_string = refl

zero_name : next_token (codes "@\"a\\00\" = ") ≡ None
unfolding next_token byte_class run decode unescaped digit_value
zero_name = refl

zero_text : next_token (codes "\"a\\00\": ") ≡ Some (k.Quoted, 6)
unfolding next_token byte_class run decode unescaped digit_value
zero_text = refl

bad_escape : next_token (codes "\"a\\q\"") ≡ None
unfolding next_token byte_class run decode unescaped digit_value
bad_escape = refl

dots : next_token (codes "...)") ≡ Some (k.Punctuation, 3)
unfolding next_token byte_class run
dots = refl

dotted_label : next_token (codes "...:") ≡ Some (k.Label, 4)
unfolding next_token byte_class run
dotted_label = refl

word_meets_colon : can_follow (record { kind = k.Word; spelling = codes "x" }) (codes ":") ≡ false
unfolding byte_class
word_meets_colon = refl

word_meets_comma : can_follow (record { kind = k.Word; spelling = codes "x" }) (codes ", ") ≡ true
unfolding byte_class
word_meets_comma = refl

-- `5:` at a line's start, and then `  ret`
sound : AreSound (record { token = record { kind = k.Label; spelling = codes "5:" }; separator = Indented } ∷ record { token = record { kind = k.Word; spelling = codes "ret" }; separator = Space } ∷ record { token = record { kind = k.Integer; spelling = codes "-7" }; separator = Line } ∷ [])
unfolding byte_class
sound = (record { row = Label; kind_is = refl; spelled = (refl, record { inside = []; byte = 58; rest = []; parts = refl; inside_in = refl; tested = refl; out = refl; byte_in = refl; rest_is = refl }) }, refl, (record { row = Word; kind_is = refl; spelled = (refl, refl) }, refl, (record { row = Rattle.ir_lexer.specs.Table.Negative; kind_is = refl; spelled = (refl, (refl, refl)) }, refl, tt)))
