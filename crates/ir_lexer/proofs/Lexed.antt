-- Pieces that can follow one another have exactly their spellings as tokens.
use Rattle.std.proofs.Common.{◌&&◌, ◌≡◌, ℕ, suc, ◌+◌, List, [], ◌∷◌, ◌++◌, length, Bool, true, false, inl, inr, refl, ap, ◌∙◌, arith, cond, Option, Some, None, append_assoc, length-append}
use Rattle.std.proofs.Math.Seq.{take-append_seam, drop-append_seam}
use Rattle.std.proofs.lemmas.Bool.{and_right}
use Rattle.ir_lexer.specs.declared.class.Class.{Class}
use Rattle.ir_lexer.specs.declared.class.Class.TheVariants as c
use Rattle.ir_lexer.specs.declared.token.TokenKind.{TokenKind}
use Rattle.ir_lexer.specs.Class.{byte_class, in_word, starts_name, in_name, is_letter, is_digit, is_dot, is_quote, no_quote, is_colon, starts_with, is_c}
use Rattle.ir_lexer.specs.Form.{each, run, Form, Done, One, Run, Upto, Spells, behind, longest}
use Rattle.ir_lexer.specs.Quoted.{is_name, is_text}
use Rattle.ir_lexer.specs.Table.{TokenRow, Label, QuotedLabel, Word, Digits, Negative, GlobalName, QuotedGlobal, LocalName, QuotedLocal, UnnamedGlobal, UnnamedLocal, Quoted, ByteString, MetaName, MetaNumber, MetaMark, Group, RecordMark, Punctuation, Dots, kind_of, starts, tail_of, IsToken, identifier, digits, inside, string}
use Rattle.ir_lexer.specs.Tokens.{Spelled, IsGap, Tokens}
use Rattle.ir_lexer.specs.Front.{rows_of, first_of, unless_cut, next_token}
use Rattle.ir_lexer.specs.Pieces.{barred, with_none, can_follow, Separator, Nothing, Space, Line, Indented, separator_bytes, TextPiece, pieces_text, tokens_of, AreSound}
use Rattle.ir_lexer.proofs.Runs.{bool_cases, run_append, run_stops, run_none, each_first}
use Rattle.ir_lexer.proofs.Rows.{word_name, digit_name, dot_name, name_quote, quote_digit, name_digit, digit_letter}
use Rattle.ir_lexer.proofs.First.{next_is}
use Rattle.ir_lexer.specs.declared.token.TokenKind.TheVariants as k
use Rattle.ir_lexer.proofs.Gaps.{past}

-- the rest does not go on with a form
abbrev pub Stops : Form → List ℕ → Type 0
Stops Done rest = Unit {0}
Stops (One p f) rest = Stops f rest
Stops (Run p) rest = starts_with p rest ≡ false
Stops (Upto p test q f) rest = Stops f rest

run_over : (p : Class → Bool) (rest : List ℕ) → starts_with p rest ≡ false → run p rest ≡ 0
run_over p [] h = run_none p
run_over p (b ∷ s) h = run_stops p b s h

run_exact : (p : Class → Bool) (s rest : List ℕ) → each p s ≡ true → starts_with p rest ≡ false → run p (s ++ rest) ≡ length s
run_exact p s rest h e = omega (arith, run_append p s rest h, run_over p rest e)

-- what is spelled is found whole where the rest does not go on with it
pub exact : (f : Form) (s rest : List ℕ) → Spells f s → Stops f rest → longest f (s ++ rest) ≡ Some (length s)
exact Done s rest h t = rw h refl
exact (One p f) [] rest h t = absurd h
exact (One p f) (b ∷ s) rest h t = rw (h.0, exact f s rest h.1 t) (ap Some (omega arith))
exact (Run p) s rest h t = ap Some (run_exact p s rest h t)
exact (Upto p test q f) s rest h t =
    let text : s ++ rest ≡ h.inside ++ (h.byte ∷ (h.rest ++ rest)) = rw h.parts (append_assoc h.inside (h.byte ∷ h.rest) rest) in
    let n : run p (h.inside ++ (h.byte ∷ (h.rest ++ rest))) ≡ length h.inside = run_exact p h.inside (h.byte ∷ (h.rest ++ rest)) h.inside_in h.out in
    let i = exact f h.rest rest h.rest_is t in
    let l : length h.inside + (1 + length h.rest) ≡ length s = omega (arith, ap length h.parts, length-append h.inside (h.byte ∷ h.rest)) in
    rw (text, n, take-append_seam h.inside (h.byte ∷ (h.rest ++ rest)), h.tested, drop-append_seam h.inside (h.byte ∷ (h.rest ++ rest)), h.byte_in, i) (ap Some l)

pub behind_none : (p : Class → Bool) (f : List ℕ → Option ℕ) (rest : List ℕ) → starts_with p rest ≡ false → behind p f rest ≡ None
behind_none p f [] h = refl
behind_none p f (b ∷ s) h = rw h refl

each_within : (p q : Class → Bool) → ((x : Class) → p x ≡ true → q x ≡ true) → (s : List ℕ) → each p s ≡ true → each q s ≡ true
each_within p q h [] e = refl
each_within p q h (b ∷ s) e = let f = each_first p b s e in rw (h (byte_class b) f.0) (each_within p q h s f.1)

-- where no label is
no_label : (s rest : List ℕ) → each in_name s ≡ true → starts_with in_name rest ≡ false → starts_with is_colon rest ≡ false → longest (tail_of Label) (s ++ rest) ≡ None
no_label s rest h e f = rw (run_exact in_name s rest h e, drop-append_seam s rest, behind_none is_colon (longest Done) rest f) refl

stop : (p : Class → Bool) (ps : List (Class → Bool)) (rest : List ℕ) → with_none (p ∷ ps) rest ≡ true → (starts_with p rest ≡ false) × (with_none ps rest ≡ true)
stop p ps rest h = elim (bool_cases (starts_with p rest)) [ inl e ↦ absurd (let k : false ≡ true = rw e at h in cc) | inr e ↦ (e, rw e at h) ]

narrower : (p q : Class → Bool) → ((x : Class) → q x ≡ true → p x ≡ true) → (rest : List ℕ) → starts_with p rest ≡ false → starts_with q rest ≡ false
narrower p q h [] e = refl
narrower p q h (b ∷ s) e = elim (bool_cases (q (byte_class b))) [ inl f ↦ absurd (let g = h (byte_class b) f in cc) | inr f ↦ f ]

pub start_name : (x : Class) → starts_name x ≡ true → in_name x ≡ true
start_name c.Digit h = refl
start_name c.Letter h = refl
start_name c.LetterC h = refl
start_name c.Underscore h = refl
start_name c.Minus h = refl
start_name c.Dollar h = refl
start_name c.Dot h = refl
start_name _ h = absurd cc

-- a form that begins otherwise is not found
blocked : (p q : Class → Bool) (f : List ℕ → Option ℕ) (g : Form) → ((x : Class) → p x ≡ true → q x ≡ true → ⊥) → (t rest : List ℕ) → Spells (One q g) t → behind p f (t ++ rest) ≡ None
blocked p q f g never [] rest h = absurd h
blocked p q f g never (b ∷ t) rest h = elim (bool_cases (p (byte_class b))) [ inl e ↦ absurd (never (byte_class b) e h.0) | inr e ↦ rw e refl ]

quote_facts : (x : Class) → is_quote x ≡ true → (in_name x ≡ false) × (is_colon x ≡ false)
quote_facts c.Quote h = (refl, refl)
quote_facts _ h = absurd cc

word_no_quote : (x : Class) → is_quote x ≡ true → in_word x ≡ true → ⊥
word_no_quote c.Quote h g = cc
word_no_quote _ h g = cc

bytes_no_label : (t rest : List ℕ) → Spells (tail_of ByteString) t → longest (tail_of Label) (t ++ rest) ≡ None
bytes_no_label [] rest h = absurd h
bytes_no_label (b ∷ t) rest h = let q = quote_facts (byte_class b) h.0 in rw (run_stops in_name b (t ++ rest) q.0, q.1) refl

word_no_bytes : (t rest : List ℕ) → each in_word t ≡ true → starts_with is_quote rest ≡ false → longest (tail_of ByteString) (t ++ rest) ≡ None
word_no_bytes [] rest h e = behind_none is_quote (longest (inside is_text Done)) rest e
word_no_bytes (b ∷ t) rest h e = blocked is_quote in_word (longest (inside is_text Done)) (Run in_word) word_no_quote (b ∷ t) rest (each_first in_word b t h)

digits_each : (t : List ℕ) → Spells digits t → each in_name t ≡ true
digits_each [] h = absurd h
digits_each (b ∷ t) h = rw (digit_name (byte_class b) h.0) (each_within is_digit in_name digit_name t h.1)

dots_each : (t : List ℕ) → Spells (tail_of Dots) t → each in_name t ≡ true
dots_each [] h = absurd h
dots_each (b ∷ []) h = absurd h.1
dots_each (b ∷ d ∷ t) h = rw (dot_name (byte_class b) h.0, dot_name (byte_class d) h.1.0, h.1.1) refl

text_no_label : (t rest : List ℕ) → Spells (tail_of Quoted) t → starts_with is_colon rest ≡ false → longest (tail_of QuotedLabel) (t ++ rest) ≡ None
text_no_label t rest h e =
    let text : t ++ rest ≡ h.inside ++ (h.byte ∷ rest) = rw h.parts (rw (append_assoc h.inside (h.byte ∷ h.rest) rest, h.rest_is) refl) in
    let n : run no_quote (h.inside ++ (h.byte ∷ rest)) ≡ length h.inside = run_exact no_quote h.inside (h.byte ∷ rest) h.inside_in h.out in
    rw (text, n, take-append_seam h.inside (h.byte ∷ rest), drop-append_seam h.inside (h.byte ∷ rest), h.byte_in, behind_none is_colon (longest Done) rest e) (nothing (is_name h.inside))
  where
    nothing : (b : Bool) → cond {A = Option ℕ} b None None ≡ None
    nothing true = refl
    nothing false = refl

word_next : (t rest : List ℕ) → each in_word t ≡ true → with_none (barred (kind_of Word) false) rest ≡ true → first_of (rows_of c.Letter) (t ++ rest) ≡ Some (kind_of Word, suc (length t))
word_next t rest h f =
    let s = stop in_name (is_colon ∷ is_quote ∷ []) rest f in
    let u = stop is_colon (is_quote ∷ []) rest s.1 in
    rw (no_label t rest (each_within in_word in_name word_name t h) s.0 u.0, run_exact in_word t rest h (narrower in_name in_word word_name rest s.0)) refl

-- What is spelled as a row is what reading finds, where the rest can follow it.
pub row_next : (x : Class) (r : TokenRow) (t rest : List ℕ) → starts r x ≡ true → Spells (tail_of r) t → with_none (barred (kind_of r) (is_dot x)) rest ≡ true → first_of (rows_of x) (t ++ rest) ≡ Some (kind_of r, suc (length t))
row_next c.LetterC Label t rest b h f = rw (exact (tail_of Label) t rest h tt) refl
row_next c.LetterC ByteString t rest b h f = rw (bytes_no_label t rest h, exact (tail_of ByteString) t rest h tt) refl
row_next c.LetterC Word t rest b h f =
    let s = stop in_name (is_colon ∷ is_quote ∷ []) rest f in
    let u = stop is_colon (is_quote ∷ []) rest s.1 in
    let v = stop is_quote [] rest u.1 in
    rw (no_label t rest (each_within in_word in_name word_name t h) s.0 u.0, word_no_bytes t rest h v.0, run_exact in_word t rest h (narrower in_name in_word word_name rest s.0)) refl
row_next c.Letter Label t rest b h f = rw (exact (tail_of Label) t rest h tt) refl
row_next c.Letter Word t rest b h f = word_next t rest h f
row_next c.Underscore Label t rest b h f = rw (exact (tail_of Label) t rest h tt) refl
row_next c.Underscore Word t rest b h f = word_next t rest h f
row_next c.Digit Label t rest b h f = rw (exact (tail_of Label) t rest h tt) refl
row_next c.Digit Digits t rest b h f =
    let s = stop in_name (is_colon ∷ []) rest f in
    let u = stop is_colon [] rest s.1 in
    rw (no_label t rest (each_within is_digit in_name digit_name t h) s.0 u.0, run_exact is_digit t rest h (narrower in_name is_digit digit_name rest s.0)) refl
row_next c.Minus Label t rest b h f = rw (exact (tail_of Label) t rest h tt) refl
row_next c.Minus Negative t rest b h f =
    let s = stop in_name (is_colon ∷ []) rest f in
    let u = stop is_colon [] rest s.1 in
    rw (no_label t rest (digits_each t h) s.0 u.0, exact (tail_of Negative) t rest h (narrower in_name is_digit digit_name rest s.0)) refl
row_next c.Dollar Label t rest b h f = rw (exact (tail_of Label) t rest h tt) refl
row_next c.Dot Label t rest b h f = rw (exact (tail_of Label) t rest h tt) refl
row_next c.Dot Dots t rest b h f =
    let s = stop in_name (is_colon ∷ []) rest f in
    let u = stop is_colon [] rest s.1 in
    rw (no_label t rest (dots_each t h) s.0 u.0, exact (tail_of Dots) t rest h tt) refl
row_next c.Quote QuotedLabel t rest b h f = rw (exact (tail_of QuotedLabel) t rest h tt) refl
row_next c.Quote Quoted t rest b h f = rw (text_no_label t rest h (stop is_colon [] rest f).0, exact (tail_of Quoted) t rest h tt) refl
row_next c.At GlobalName t rest b h f = rw (exact identifier t rest h (stop in_name [] rest f).0) refl
row_next c.At QuotedGlobal t rest b h f = rw (blocked starts_name is_quote (longest (Run in_name)) (inside is_name Done) name_quote t rest h, exact (string is_name) t rest h tt) refl
row_next c.At UnnamedGlobal t rest b h f = rw (blocked starts_name is_digit (longest (Run in_name)) (Run is_digit) name_digit t rest h, blocked is_quote is_digit (longest (inside is_name Done)) (Run is_digit) quote_digit t rest h, exact digits t rest h (stop is_digit [] rest f).0) refl
row_next c.Percent LocalName t rest b h f = rw (exact identifier t rest h (stop in_name [] rest f).0) refl
row_next c.Percent QuotedLocal t rest b h f = rw (blocked starts_name is_quote (longest (Run in_name)) (inside is_name Done) name_quote t rest h, exact (string is_name) t rest h tt) refl
row_next c.Percent UnnamedLocal t rest b h f = rw (blocked starts_name is_digit (longest (Run in_name)) (Run is_digit) name_digit t rest h, blocked is_quote is_digit (longest (inside is_name Done)) (Run is_digit) quote_digit t rest h, exact digits t rest h (stop is_digit [] rest f).0) refl
row_next c.Bang MetaName t rest b h f = rw (exact identifier t rest h (stop in_name [] rest f).0) refl
row_next c.Bang MetaNumber t rest b h f = rw (blocked starts_name is_digit (longest (Run in_name)) (Run is_digit) name_digit t rest h, exact digits t rest h (stop is_digit [] rest f).0) refl
row_next c.Bang MetaMark t rest b h f =
    let s = stop in_name [] rest f in
    rw (h, behind_none starts_name (longest (Run in_name)) rest (narrower in_name starts_name start_name rest s.0), behind_none is_digit (longest (Run is_digit)) rest (narrower in_name is_digit digit_name rest s.0)) refl
row_next c.Hash Group t rest b h f = rw (exact digits t rest h (stop is_digit [] rest f).0) refl
row_next c.Hash RecordMark t rest b h f = rw (blocked is_digit is_letter (longest (Run is_digit)) (Run in_word) digit_letter t rest h, exact (tail_of RecordMark) t rest h (stop in_word [] rest f).0) refl
row_next c.Colon Punctuation t rest b h f = rw h refl
row_next c.Mark Punctuation t rest b h f = rw h refl
row_next c.Semicolon Label t rest b h f = absurd cc
row_next c.LineFeed Label t rest b h f = absurd cc
row_next c.Blank Label t rest b h f = absurd cc
row_next c.Other Label t rest b h f = absurd cc
row_next _ _ t rest b h f = absurd cc

-- what reading finds is no word that a quote cuts off
stays : (r : TokenRow) (cut : Bool) (n : ℕ) → (kind_of r ≡ k.Word → cut ≡ false) → unless_cut cut (Some (kind_of r, n)) ≡ Some (kind_of r, n)
stays Word cut n h = rw (h refl) refl
stays _ cut n h = refl

no_quote_behind : (r : TokenRow) (dots : Bool) (t rest : List ℕ) → kind_of r ≡ k.Word → Spells (tail_of r) t → with_none (barred (kind_of r) dots) rest ≡ true → starts_with is_quote (t ++ rest) ≡ false
no_quote_behind Word dots [] rest w h f = (stop is_quote [] rest (stop is_colon (is_quote ∷ []) rest (stop in_name (is_colon ∷ is_quote ∷ []) rest f).1).1).0
no_quote_behind Word dots (y ∷ t) rest w h f = elim (bool_cases (is_quote (byte_class y))) [ inl e ↦ absurd (word_no_quote (byte_class y) e (each_first in_word y t h).0) | inr e ↦ e ]
no_quote_behind _ dots t rest w h f = absurd cc

pub follows : (t : Spelled) (rest : List ℕ) → IsToken t.kind t.spelling → can_follow t rest ≡ true → next_token (t.spelling ++ rest) ≡ Some (t.kind, length t.spelling)
unfolding next_token
follows t rest i f = go t.kind t.spelling rest i f
  where
    go : (kind : TokenKind) (s rest : List ℕ) → IsToken kind s → with_none (barred kind (starts_with is_dot s)) rest ≡ true → next_token (s ++ rest) ≡ Some (kind, length s)
    go kind [] rest t f = absurd t.spelled
    go kind (b ∷ s) rest t f =
        let x = byte_class b in
        let follow : with_none (barred (kind_of t.row) (is_dot x)) rest ≡ true = rw (← t.kind_is) at f in
        let n = row_next x t.row s rest t.spelled.0 t.spelled.1 follow in
        let cut = is_c x && starts_with is_quote (s ++ rest) in
        rw (← t.kind_is, n) (stays t.row cut (suc (length s)) (λ w. and_right (is_c x) (starts_with is_quote (s ++ rest)) (no_quote_behind t.row (is_dot x) s rest w t.spelled.1 follow)))

separator_is : (s : Separator) → IsGap (separator_bytes s)
unfolding byte_class
separator_is Nothing = refl
separator_is Space = refl
separator_is Line = refl
separator_is Indented = refl

pub gap_before : (gap text : List ℕ) (ts : List Spelled) → IsGap gap → Tokens text ts → Tokens (gap ++ text) ts
gap_before gap text [] g h = (h.0, (past false false gap text g).state ∙ h.1)
gap_before gap text (t ∷ ts) g h =
    let i = h.1 in
    (h.0, record { gap = gap ++ i.gap; parts = rw (append_assoc gap i.gap (t.spelling ++ h.0)) (ap (λ s. gap ++ s) i.parts); gap_is = (past false false gap i.gap g).state ∙ i.gap_is; token = i.token; longest = i.longest }, h.2)

-- The tokens of sound pieces are their spellings, and no others.
pub pieces_are : (ps : List TextPiece) → AreSound ps → Tokens (pieces_text ps) (tokens_of ps)
pieces_are [] h = (false, refl)
pieces_are (p ∷ ps) h =
    let rest = separator_bytes p.separator ++ pieces_text ps in
    let t = p.token in
    let i = next_is (t.spelling ++ rest) t.kind (length t.spelling) (follows t rest h.0 h.1) in
    (rest, record { gap = []; parts = refl; gap_is = refl; token = record { token = h.0; whole = rw (take-append_seam t.spelling rest, drop-append_seam t.spelling rest) at i.whole }; longest = λ k s r u e. (i.longest k s r u.token e).0 }, gap_before (separator_bytes p.separator) (pieces_text ps) (tokens_of ps) (separator_is p.separator) (pieces_are ps h.2))
