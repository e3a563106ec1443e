-- The words and marks of the language are printed.
use Rattle.std.proofs.Common.{◌≡◌, ℕ, List, [], ◌∷◌, Bool, true, false, cond, refl, codes}
use Rattle.ir_lexer.specs.Class.{byte_class, starts_word, in_word, is_punctuation}
use Rattle.ir_lexer.specs.Form.{each}
use Rattle.ir_lexer.specs.Table.{IsToken}
use Rattle.ir_lexer.specs.Table as table
use Rattle.ir_lexer.specs.declared.token.TokenKind.{TokenKind}
use Rattle.ir_lexer.specs.declared.token.TokenKind.TheVariants as kind
use Rattle.ir_terminals.specs.PhraseRows.Row.{among}
use Rattle.ir_terminals.specs.Role.{terminal}
use Rattle.ir_terminals.specs.Terminal.{code}
use Rattle.ir_terminals.specs.Tokens.{word}
use Rattle.ir_terminals.specs.Values.{place_of_token}
use Rattle.ir_terminals.specs.Words.{word_terminal, words_by_role}
use Rattle.ir_terminals.specs.declared.terminal.Terminal.{Terminal}
use Rattle.ir_terminals.specs.declared.terminal.Terminal.TheVariants as terminals
use Rattle.canonical.specs.Phrase as phrase
use Rattle.canonical.specs.Items.Unplaced.{nowhere}
use Rattle.canonical.proofs.OnLaw.Printed.{IsPrinted, no_place}
use Rattle.canonical.proofs.OnLaw.Rows.{printed_one}

abbrev is_word : List ℕ → Bool
is_word [] = false
is_word (b ∷ bs) = cond (starts_word (byte_class b)) (each in_word bs) false

pub word_token : (s : List ℕ) → is_word s ≡ true → IsToken kind.Word s
word_token [] h = absurd cc
word_token (b ∷ bs) h = by (starts_word (byte_class b)) refl h
  where
    by : (c : Bool) → starts_word (byte_class b) ≡ c → cond c (each in_word bs) false ≡ true → IsToken kind.Word (b ∷ bs)
    by true e h = record { row = table.Word; kind_is = refl; spelled = (e, h) }
    by false e h = absurd cc

pub mark_token : (b : ℕ) → is_punctuation (byte_class b) ≡ true → IsToken kind.Punctuation (b ∷ [])
mark_token b h = record { row = table.Punctuation; kind_is = refl; spelled = (h, refl) }

pub printed_word : (wanted : Terminal) (k : TokenKind) (s : List ℕ) → IsToken k s → among (code (terminal (record { kind = k; spelling = s }))) (code wanted ∷ []) ≡ true → IsPrinted (word wanted) no_place nowhere (phrase.token k s)
printed_word wanted k s t c = printed_one (code wanted ∷ []) place_of_token no_place nowhere k s t c (λ place. (place, refl, refl))

pub printed_comma : IsPrinted (word terminals.Comma) no_place nowhere (phrase.mark (codes ","))
unfolding byte_class terminal
printed_comma = printed_word terminals.Comma kind.Punctuation (codes ",") (mark_token 44 refl) refl

pub printed_equals : IsPrinted (word terminals.Equals) no_place nowhere (phrase.mark (codes "="))
unfolding byte_class terminal
printed_equals = printed_word terminals.Equals kind.Punctuation (codes "=") (mark_token 61 refl) refl

pub printed_open_parenthesis : IsPrinted (word terminals.OpenParenthesis) no_place nowhere (phrase.mark (codes "("))
unfolding byte_class terminal
printed_open_parenthesis = printed_word terminals.OpenParenthesis kind.Punctuation (codes "(") (mark_token 40 refl) refl

pub printed_close_parenthesis : IsPrinted (word terminals.CloseParenthesis) no_place nowhere (phrase.mark (codes ")"))
unfolding byte_class terminal
printed_close_parenthesis = printed_word terminals.CloseParenthesis kind.Punctuation (codes ")") (mark_token 41 refl) refl

pub printed_open_bracket : IsPrinted (word terminals.OpenBracket) no_place nowhere (phrase.mark (codes "["))
unfolding byte_class terminal
printed_open_bracket = printed_word terminals.OpenBracket kind.Punctuation (codes "[") (mark_token 91 refl) refl

pub printed_close_bracket : IsPrinted (word terminals.CloseBracket) no_place nowhere (phrase.mark (codes "]"))
unfolding byte_class terminal
printed_close_bracket = printed_word terminals.CloseBracket kind.Punctuation (codes "]") (mark_token 93 refl) refl

pub printed_open_brace : IsPrinted (word terminals.OpenBrace) no_place nowhere (phrase.mark (codes "{"))
unfolding byte_class terminal
printed_open_brace = printed_word terminals.OpenBrace kind.Punctuation (codes "{") (mark_token 123 refl) refl

pub printed_close_brace : IsPrinted (word terminals.CloseBrace) no_place nowhere (phrase.mark (codes "}"))
unfolding byte_class terminal
printed_close_brace = printed_word terminals.CloseBrace kind.Punctuation (codes "}") (mark_token 125 refl) refl

pub printed_less : IsPrinted (word terminals.Less) no_place nowhere (phrase.mark (codes "<"))
unfolding byte_class terminal
printed_less = printed_word terminals.Less kind.Punctuation (codes "<") (mark_token 60 refl) refl

pub printed_greater : IsPrinted (word terminals.Greater) no_place nowhere (phrase.mark (codes ">"))
unfolding byte_class terminal
printed_greater = printed_word terminals.Greater kind.Punctuation (codes ">") (mark_token 62 refl) refl

pub printed_x : IsPrinted (word terminals.X) no_place nowhere (phrase.word (codes "x"))
unfolding byte_class terminal word_terminal words_by_role
printed_x = printed_word terminals.X kind.Word (codes "x") (word_token (codes "x") refl) refl

pub printed_to : IsPrinted (word terminals.To) no_place nowhere (phrase.word (codes "to"))
unfolding byte_class terminal word_terminal words_by_role
printed_to = printed_word terminals.To kind.Word (codes "to") (word_token (codes "to") refl) refl

pub printed_ptr : IsPrinted (word terminals.Ptr) no_place nowhere (phrase.word (codes "ptr"))
unfolding byte_class terminal word_terminal words_by_role
printed_ptr = printed_word terminals.Ptr kind.Word (codes "ptr") (word_token (codes "ptr") refl) refl

pub printed_void : IsPrinted (word terminals.Void) no_place nowhere (phrase.word (codes "void"))
unfolding byte_class terminal word_terminal words_by_role
printed_void = printed_word terminals.Void kind.Word (codes "void") (word_token (codes "void") refl) refl

pub printed_label : IsPrinted (word terminals.LabelWord) no_place nowhere (phrase.word (codes "label"))
unfolding byte_class terminal word_terminal words_by_role
printed_label = printed_word terminals.LabelWord kind.Word (codes "label") (word_token (codes "label") refl) refl

pub printed_align : IsPrinted (word terminals.Align) no_place nowhere (phrase.word (codes "align"))
unfolding byte_class terminal word_terminal words_by_role
printed_align = printed_word terminals.Align kind.Word (codes "align") (word_token (codes "align") refl) refl

pub printed_opaque : IsPrinted (word terminals.Opaque) no_place nowhere (phrase.word (codes "opaque"))
unfolding byte_class terminal word_terminal words_by_role
printed_opaque = printed_word terminals.Opaque kind.Word (codes "opaque") (word_token (codes "opaque") refl) refl

pub printed_type : IsPrinted (word terminals.«Type») no_place nowhere (phrase.word (codes "type"))
unfolding byte_class terminal word_terminal words_by_role
printed_type = printed_word terminals.«Type» kind.Word (codes "type") (word_token (codes "type") refl) refl

pub printed_global : IsPrinted (word terminals.Global) no_place nowhere (phrase.word (codes "global"))
unfolding byte_class terminal word_terminal words_by_role
printed_global = printed_word terminals.Global kind.Word (codes "global") (word_token (codes "global") refl) refl

pub printed_constant : IsPrinted (word terminals.Constant) no_place nowhere (phrase.word (codes "constant"))
unfolding byte_class terminal word_terminal words_by_role
printed_constant = printed_word terminals.Constant kind.Word (codes "constant") (word_token (codes "constant") refl) refl

pub printed_alias_word : IsPrinted (word terminals.«Alias») no_place nowhere (phrase.word (codes "alias"))
unfolding byte_class terminal word_terminal words_by_role
printed_alias_word = printed_word terminals.«Alias» kind.Word (codes "alias") (word_token (codes "alias") refl) refl

pub printed_declare : IsPrinted (word terminals.Declare) no_place nowhere (phrase.word (codes "declare"))
unfolding byte_class terminal word_terminal words_by_role
printed_declare = printed_word terminals.Declare kind.Word (codes "declare") (word_token (codes "declare") refl) refl

pub printed_define : IsPrinted (word terminals.Define) no_place nowhere (phrase.word (codes "define"))
unfolding byte_class terminal word_terminal words_by_role
printed_define = printed_word terminals.Define kind.Word (codes "define") (word_token (codes "define") refl) refl

pub printed_source_filename : IsPrinted (word terminals.SourceFilename) no_place nowhere (phrase.word (codes "source_filename"))
unfolding byte_class terminal word_terminal words_by_role
printed_source_filename = printed_word terminals.SourceFilename kind.Word (codes "source_filename") (word_token (codes "source_filename") refl) refl

pub printed_target : IsPrinted (word terminals.Target) no_place nowhere (phrase.word (codes "target"))
unfolding byte_class terminal word_terminal words_by_role
printed_target = printed_word terminals.Target kind.Word (codes "target") (word_token (codes "target") refl) refl

pub printed_datalayout : IsPrinted (word terminals.DataLayout) no_place nowhere (phrase.word (codes "datalayout"))
unfolding byte_class terminal word_terminal words_by_role
printed_datalayout = printed_word terminals.DataLayout kind.Word (codes "datalayout") (word_token (codes "datalayout") refl) refl

pub printed_triple : IsPrinted (word terminals.Triple) no_place nowhere (phrase.word (codes "triple"))
unfolding byte_class terminal word_terminal words_by_role
printed_triple = printed_word terminals.Triple kind.Word (codes "triple") (word_token (codes "triple") refl) refl
