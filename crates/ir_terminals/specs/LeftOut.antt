-- For `is_left_out` of `Cursor`: what the language leaves out.
use Rattle.std.specs.Prelude.{ℕ, ◌||◌, not, Bool, true, false, List, [], ◌∷◌, take, codes, bytes_eq, Option, Some, None}
use Rattle.std.specs.List.{list_any}
use Rattle.ir_lexer.specs.Ahead.{Located}
use Rattle.ir_lexer.specs.declared.token.TokenKind.{TokenKind}
use Rattle.ir_lexer.specs.declared.token.TokenKind.TheVariants as kind
use Rattle.ir_terminals.specs.Position.{Position, tokens_left, is_behind_less}
use Rattle.ir_terminals.specs.Words.{width_in, is_width}

-- the words for which the language has no phrase
unfoldable pub left_out_words : List (List ℕ)
left_out_words =
    codes "half" ∷
    codes "bfloat" ∷
    codes "float" ∷
    codes "double" ∷
    codes "fp128" ∷
    codes "x86_fp80" ∷
    codes "ppc_fp128" ∷
    codes "x86_amx" ∷
    codes "metadata" ∷
    codes "token" ∷
    codes "addrspace" ∷
    codes "comdat" ∷
    codes "thread_local" ∷
    codes "externally_initialized" ∷
    codes "ifunc" ∷
    codes "module" ∷
    codes "asm" ∷
    codes "uselistorder" ∷
    codes "uselistorder_bb" ∷
    codes "blockaddress" ∷
    codes "bitcast" ∷
    codes "addrspacecast" ∷
    codes "fneg" ∷
    codes "fadd" ∷
    codes "fsub" ∷
    codes "fmul" ∷
    codes "fdiv" ∷
    codes "frem" ∷
    codes "fcmp" ∷
    codes "fptrunc" ∷
    codes "fpext" ∷
    codes "fptoui" ∷
    codes "fptosi" ∷
    codes "uitofp" ∷
    codes "sitofp" ∷
    codes "extractelement" ∷
    codes "insertelement" ∷
    codes "shufflevector" ∷
    codes "atomic" ∷
    codes "fence" ∷
    codes "cmpxchg" ∷
    codes "atomicrmw" ∷
    codes "invoke" ∷
    codes "landingpad" ∷
    codes "resume" ∷
    codes "cleanupret" ∷
    codes "catchret" ∷
    codes "catchswitch" ∷
    codes "catchpad" ∷
    codes "cleanuppad" ∷
    codes "indirectbr" ∷
    codes "callbr" ∷
    codes "va_arg" ∷
    codes "byval" ∷
    codes "byref" ∷
    codes "inalloca" ∷
    codes "preallocated" ∷
    codes "elementtype" ∷
    codes "swiftself" ∷
    codes "swifterror" ∷
    codes "swiftasync" ∷
    codes "personality" ∷
    codes "gc" ∷
    codes "prefix" ∷
    codes "prologue" ∷
    codes "cc" ∷
    codes "strictfp" ∷
    codes "naked" ∷
    codes "inrange" ∷
    []

-- the word is one for which the language has no phrase
abbrev pub is_listed : List ℕ → Bool
is_listed word = list_any (λ other. bytes_eq other word) left_out_words

-- `iN` with a number of bits that no type has
abbrev pub is_outside : Option ℕ → Bool
is_outside (Some width) = not (is_width width)
is_outside None = false

-- a hexadecimal integer
abbrev pub is_hexadecimal : List ℕ → Bool
is_hexadecimal word = bytes_eq (take 3 word) (codes "s0x") || bytes_eq (take 3 word) (codes "u0x")

-- a word that the language leaves out
abbrev pub is_left_out_word : List ℕ → Bool
is_left_out_word word = is_hexadecimal word || is_listed word || is_outside (width_in word)

-- a token with this kind and spelling, behind `<` or not
abbrev pub is_left_out_as : TokenKind → List ℕ → Bool → Bool
is_left_out_as kind.Word spelling behind = is_left_out_word spelling
is_left_out_as kind.UnnamedGlobal spelling behind = true
is_left_out_as kind.RecordMark spelling behind = true
is_left_out_as kind.Integer spelling behind = behind
is_left_out_as kind.Punctuation spelling behind = bytes_eq spelling (codes "*")
is_left_out_as _ spelling behind = false

-- the first of these tokens is one that the language leaves out
abbrev pub is_first_left_out : List Located → Bool → Bool
is_first_left_out [] behind = false
is_first_left_out (t ∷ ts) behind = is_left_out_as t.token.kind t.token.spelling behind

-- the next token is one that the language leaves out, wherever it stands
abbrev pub is_left_out : Position → Bool
is_left_out p = is_first_left_out (tokens_left p) (is_behind_less p.text p.taken)
