-- Phrases in two parts, and the pieces of one token.
use Rattle.std.proofs.Common.{◌≡◌, ℕ, List, [], ◌∷◌, ◌++◌, Bool, true, false, refl, sym, ap, append_assoc, append-nil}
use Rattle.ir_lexer.specs.Ahead.{Located, tokens_in}
use Rattle.ir_lexer.specs.Class.{byte_class, starts_with, is_dot}
use Rattle.ir_lexer.specs.Pieces.{TextPiece, Separator, Nothing, Space, Line, Indented, pieces_text, tokens_of, barred, with_none, separator_bytes}
use Rattle.ir_lexer.specs.Table.{IsToken}
use Rattle.ir_lexer.specs.Tokens.{Spelled}
use Rattle.ir_lexer.specs.declared.class.Class.{Class}
use Rattle.ir_lexer.specs.declared.class.Class.TheVariants.{Mark}
use Rattle.ir_lexer.specs.declared.token.TokenKind.{TokenKind}
use Rattle.ir_lexer.specs.declared.token.TokenKind.TheVariants as kind
use Rattle.canonical.specs.Phrase.{Phrase, none, token, mark, ◌␣◌, ◌⌢◌}
use Rattle.canonical.proofs.OnLaw.Printed.{is_mark, Fits, IsSpaced, Joins, Starts}

pub spaced : {p q : Phrase} → Joins p q (p ␣ q)
spaced {p} {q} = record {
  between = λ b. Space;
  parts = λ b. refl;
  spaced = λ h k. record { sound = λ b rest f s. rw (append_assoc (p Space) (q b) rest) (h.sound Space (q b ++ rest) tt (k.sound b rest f s)) };
}

pub tight : {p q : Phrase} → Starts q → Joins p q (p ⌢ q)
tight {p} {q} st = record {
  between = λ b. Nothing;
  parts = λ b. refl;
  spaced = λ h k. record { sound = λ b rest f s. rw (append_assoc (p Nothing) (q b) rest) (h.sound Nothing (q b ++ rest) (st.starts b rest) (k.sound b rest f s)) };
}

-- behind an opening mark
pub opened : {q : Phrase} (m : List ℕ) → IsToken kind.Punctuation m → starts_with is_dot m ≡ false → Joins (mark m) q (mark m ⌢ q)
opened {q} m t d = record {
  between = λ b. Nothing;
  parts = λ b. refl;
  spaced = λ h k. record { sound = λ b rest f s. (t, rw d refl, k.sound b rest f s) };
}

pub left_none : {q : Phrase} → Joins none q q
left_none = record { between = λ b. b; parts = λ b. refl; spaced = λ h k. k }

pub right_none : {p : Phrase} → Joins p none p
right_none {p} = record { between = λ b. b; parts = λ b. sym (append-nil (p b)); spaced = λ h k. h }

pub starts_spaced : {p : Phrase} (q : Phrase) → Starts p → Starts (p ␣ q)
starts_spaced {p} q h = record { starts = λ b rest. rw (append_assoc (p Space) (q b) rest) (h.starts Space (q b ++ rest)) }

pub starts_tight : {p : Phrase} (q : Phrase) → Starts p → Starts (p ⌢ q)
starts_tight {p} q h = record { starts = λ b rest. rw (append_assoc (p Nothing) (q b) rest) (h.starts Nothing (q b ++ rest)) }

pub spaced_none : IsSpaced none
spaced_none = record { sound = λ b rest f s. s }

-- no token goes on with a blank
blank_ends : (k : TokenKind) (dots : Bool) (rest : List ℕ) → (with_none (barred k dots) (32 ∷ rest) ≡ true) × (with_none (barred k dots) (10 ∷ rest) ≡ true)
unfolding byte_class
blank_ends kind.Label dots rest = (refl, refl)
blank_ends kind.Word dots rest = (refl, refl)
blank_ends kind.Integer dots rest = (refl, refl)
blank_ends kind.GlobalName dots rest = (refl, refl)
blank_ends kind.LocalName dots rest = (refl, refl)
blank_ends kind.UnnamedGlobal dots rest = (refl, refl)
blank_ends kind.UnnamedLocal dots rest = (refl, refl)
blank_ends kind.Quoted dots rest = (refl, refl)
blank_ends kind.ByteString dots rest = (refl, refl)
blank_ends kind.MetaName dots rest = (refl, refl)
blank_ends kind.MetaNumber dots rest = (refl, refl)
blank_ends kind.MetaMark dots rest = (refl, refl)
blank_ends kind.Group dots rest = (refl, refl)
blank_ends kind.RecordMark dots rest = (refl, refl)
blank_ends kind.Punctuation true rest = (refl, refl)
blank_ends kind.Punctuation false rest = (refl, refl)

is_the_mark : (c : Class) → is_mark c ≡ true → c ≡ Mark
is_the_mark Mark h = refl
is_the_mark _ h = absurd cc

-- nor with a mark
mark_ends_at : (k : TokenKind) (dots : Bool) (b : ℕ) (rest : List ℕ) → byte_class b ≡ Mark → with_none (barred k dots) (b ∷ rest) ≡ true
mark_ends_at kind.Label dots b rest e = refl
mark_ends_at kind.Word dots b rest e = rw e refl
mark_ends_at kind.Integer dots b rest e = rw e refl
mark_ends_at kind.GlobalName dots b rest e = rw e refl
mark_ends_at kind.LocalName dots b rest e = rw e refl
mark_ends_at kind.UnnamedGlobal dots b rest e = rw e refl
mark_ends_at kind.UnnamedLocal dots b rest e = rw e refl
mark_ends_at kind.Quoted dots b rest e = rw e refl
mark_ends_at kind.ByteString dots b rest e = refl
mark_ends_at kind.MetaName dots b rest e = rw e refl
mark_ends_at kind.MetaNumber dots b rest e = rw e refl
mark_ends_at kind.MetaMark dots b rest e = rw e refl
mark_ends_at kind.Group dots b rest e = rw e refl
mark_ends_at kind.RecordMark dots b rest e = rw e refl
mark_ends_at kind.Punctuation true b rest e = rw e refl
mark_ends_at kind.Punctuation false b rest e = refl

mark_ends : (k : TokenKind) (dots : Bool) (text : List ℕ) → starts_with is_mark text ≡ true → with_none (barred k dots) text ≡ true
mark_ends k dots [] h = absurd cc
mark_ends k dots (b ∷ rest) h = mark_ends_at k dots b rest (is_the_mark (byte_class b) h)

pub spaced_token : (k : TokenKind) (spelling : List ℕ) → IsToken k spelling → IsSpaced (token k spelling)
spaced_token k spelling t = record { sound = λ b rest f s. (t, ends b rest f, s) }
  where
    ends : (b : Separator) (rest : List TextPiece) → Fits b rest → with_none (barred k (starts_with is_dot spelling)) (separator_bytes b ++ pieces_text rest) ≡ true
    ends Nothing rest f = mark_ends k (starts_with is_dot spelling) (pieces_text rest) f
    ends Space rest f = (blank_ends k (starts_with is_dot spelling) (pieces_text rest)).0
    ends Line rest f = (blank_ends k (starts_with is_dot spelling) (pieces_text rest)).1
    ends Indented rest f = (blank_ends k (starts_with is_dot spelling) (32 ∷ 32 ∷ pieces_text rest)).1

-- tokens in two parts: those of the first pieces, then those of the others
abbrev pub AreParted : List TextPiece → List TextPiece → List Located → Type 0
AreParted ps qs ts = (us : List Located) × (vs : List Located) × (ts ≡ us ++ vs) × (tokens_in us ≡ tokens_of ps) × (tokens_in vs ≡ tokens_of qs)

parted_behind : (p : TextPiece) (ps qs : List TextPiece) (t : Located) (ts : List Located) → t.token ≡ p.token → AreParted ps qs ts → AreParted (p ∷ ps) qs (t ∷ ts)
parted_behind p ps qs t ts first (us, vs, whole, front, rest) = (t ∷ us, vs, ap (λ (xs : List Located). t ∷ xs) whole, (λ i. first i ∷ front i), rest)

-- the tokens of two lists of pieces are those of each
pub parted : (ps qs : List TextPiece) (ts : List Located) → tokens_in ts ≡ tokens_of (ps ++ qs) → AreParted ps qs ts
parted [] qs ts e = ([], ts, refl, refl, e)
parted (p ∷ ps) qs [] e = absurd cc
parted (p ∷ ps) qs (t ∷ ts) e =
    let rest : tokens_in ts ≡ tokens_of (ps ++ qs) = cc in
    let first : t.token ≡ p.token = cc in
    parted_behind p ps qs t ts first (parted ps qs ts rest)

-- any tokens may stand somewhere
pub somewhere : (ps : List TextPiece) → (ts : List Located) × (tokens_in ts ≡ tokens_of ps)
somewhere [] = ([], refl)
somewhere (p ∷ ps) = let w = somewhere ps in (record { token = p.token; place = record { line = 0; column = 0 } } ∷ w.0, ap (λ (us : List Spelled). p.token ∷ us) w.1)
