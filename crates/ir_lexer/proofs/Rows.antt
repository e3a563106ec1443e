-- Of the rows that may begin with a byte, the first that fits is the longest.
use Rattle.std.proofs.Common.{◌≡◌, ℕ, suc, ◌<◌, List, [], ◌∷◌, take, drop, Bool, true, false, ◌⊎◌, inl, inr, refl, ap, ◌∙◌, arith, Option, Some}
use Rattle.ir_lexer.specs.declared.class.Class.{Class}
use Rattle.ir_lexer.specs.declared.class.Class.TheVariants as c
use Rattle.ir_lexer.specs.Class.{byte_class, is_letter, in_word, starts_name, in_name, is_digit, is_dot, is_quote, no_quote, is_colon}
use Rattle.ir_lexer.specs.Form.{run, Form, Done, One, Run, more, behind, longest}
use Rattle.ir_lexer.specs.Quoted.{is_name, is_text}
use Rattle.ir_lexer.specs.Table.{TokenRow, Label, QuotedLabel, Word, Digits, Negative, GlobalName, QuotedGlobal, LocalName, QuotedLocal, UnnamedGlobal, UnnamedLocal, Quoted, ByteString, MetaName, MetaNumber, MetaMark, Group, RecordMark, Punctuation, Dots, starts, tail_of, digits, inside}
use Rattle.ir_lexer.specs.Front.{rows_of}
use Rattle.ir_lexer.proofs.Runs.{run_first, run_stops, run_within}
use Rattle.ir_lexer.proofs.Fronts.{more_is, cond_some}

abbrev pub Among : TokenRow → List TokenRow → Type 0
Among r [] = ⊥
Among r (x ∷ xs) = (r ≡ x) ⊎ Among r xs

-- where both rows let the bytes be, the first is longer
abbrev pub Wins : TokenRow → List ℕ → TokenRow → Type 0
Wins r bs s = (n m : ℕ) → longest (tail_of r) bs ≡ Some n → longest (tail_of s) bs ≡ Some m → m < n

abbrev pub WinsAll : TokenRow → List ℕ → List TokenRow → Type 0
WinsAll r bs [] = Unit {0}
WinsAll r bs (s ∷ rs) = Wins r bs s × WinsAll r bs rs

abbrev pub Ordered : List ℕ → List TokenRow → Type 0
Ordered bs [] = Unit {0}
Ordered bs (r ∷ rs) = WinsAll r bs rs × Ordered bs rs

-- Classes.
pub word_name : (c : Class) → in_word c ≡ true → in_name c ≡ true
word_name c.Digit h = refl
word_name c.Letter h = refl
word_name c.LetterC h = refl
word_name c.Underscore h = refl
word_name _ h = cc

pub digit_name : (c : Class) → is_digit c ≡ true → in_name c ≡ true
digit_name c.Digit h = refl
digit_name _ h = cc

pub dot_name : (c : Class) → is_dot c ≡ true → in_name c ≡ true
dot_name c.Dot h = refl
dot_name _ h = cc

pub name_quote : (c : Class) → starts_name c ≡ true → is_quote c ≡ true → ⊥
name_quote c.Quote h g = cc
name_quote _ h g = cc

pub name_digit : (c : Class) → starts_name c ≡ true → is_digit c ≡ true → ⊥
name_digit c.Digit h g = cc
name_digit _ h g = cc

pub quote_digit : (c : Class) → is_quote c ≡ true → is_digit c ≡ true → ⊥
quote_digit c.Digit h g = cc
quote_digit _ h g = cc

pub digit_letter : (c : Class) → is_digit c ≡ true → is_letter c ≡ true → ⊥
digit_letter c.Digit h g = cc
digit_letter _ h g = cc

quote_no_name : (c : Class) → is_quote c ≡ true → in_name c ≡ false
quote_no_name c.Quote h = refl
quote_no_name _ h = absurd cc

pub quote_no_word : (c : Class) → is_quote c ≡ true → in_word c ≡ false
quote_no_word c.Quote h = refl
quote_no_word _ h = absurd cc

quote_no_colon : (c : Class) → is_quote c ≡ true → is_colon c ≡ true → ⊥
quote_no_colon c.Quote h g = cc
quote_no_colon _ h g = cc

-- what is found behind a byte of a class
pub record Behind (p : Class → Bool) (f : List ℕ → Option ℕ) (bs : List ℕ) (n : ℕ) : Type 0 where
  pub byte : ℕ
  pub rest : List ℕ
  pub number : ℕ
  pub parts : bs ≡ byte ∷ rest
  pub byte_in : p (byte_class byte) ≡ true
  pub found : f rest ≡ Some number
  pub number_is : n ≡ suc number

pub behind_is : (p : Class → Bool) (f : List ℕ → Option ℕ) (bs : List ℕ) (n : ℕ) → behind p f bs ≡ Some n → Behind p f bs n
behind_is p f [] n h = absurd cc
behind_is p f (b ∷ bs) n h =
    let g = cond_some (p (byte_class b)) (more 1 (f bs)) n h in
    let m = more_is 1 n (f bs) g.1 in
    record { byte = b; rest = bs; number = m.0; parts = refl; byte_in = g.0; found = m.1; number_is = omega (arith, m.2) }

apart : (p q : Class → Bool) (f g : List ℕ → Option ℕ) → ((c : Class) → p c ≡ true → q c ≡ true → ⊥) → (bs : List ℕ) (n m : ℕ) → behind p f bs ≡ Some n → behind q g bs ≡ Some m → ⊥
apart p q f g never bs n m h k =
    let x = behind_is p f bs n h in
    let y = behind_is q g bs m k in
    let xe = x.parts in
    let ye = y.parts in
    let e : x.byte ≡ y.byte = cc in
    never (byte_class x.byte) x.byte_in (rw e y.byte_in)

label_number : (bs : List ℕ) (n : ℕ) → longest (tail_of Label) bs ≡ Some n → n ≡ suc (run in_name bs)
label_number bs n h =
    let m = more_is (run in_name bs) n _ h in
    let i = behind_is is_colon (longest Done) (drop (run in_name bs) bs) m.0 m.1 in
    let z : 0 ≡ i.number = let f = i.found in cc in
    omega (arith, m.2, i.number_is)

digits_number : (bs : List ℕ) (n : ℕ) → longest digits bs ≡ Some n → n ≡ run is_digit bs
digits_number bs n h =
    let i = behind_is is_digit (longest (Run is_digit)) bs n h in
    let z : run is_digit i.rest ≡ i.number = let f = i.found in cc in
    rw (i.parts, run_first is_digit i.byte i.rest i.byte_in) (omega (arith, i.number_is))

label_word : (bs : List ℕ) → Wins Label bs Word
label_word bs n m h g = let e : run in_word bs ≡ m = cc in omega (arith, label_number bs n h, run_within in_word in_name word_name bs)

label_digits : (bs : List ℕ) → Wins Label bs Digits
label_digits bs n m h g = let e : run is_digit bs ≡ m = cc in omega (arith, label_number bs n h, run_within is_digit in_name digit_name bs)

label_negative : (bs : List ℕ) → Wins Label bs Negative
label_negative bs n m h g = omega (arith, label_number bs n h, digits_number bs m g, run_within is_digit in_name digit_name bs)

label_dots : (bs : List ℕ) → Wins Label bs Dots
label_dots bs n m h g =
    let i = behind_is is_dot (longest (One is_dot Done)) bs m g in
    let j = behind_is is_dot (longest Done) i.rest i.number i.found in
    let z : 0 ≡ j.number = let f = j.found in cc in
    let one : run in_name bs ≡ suc (run in_name i.rest) = ap (run in_name) i.parts ∙ run_first in_name i.byte i.rest (dot_name _ i.byte_in) in
    let two : run in_name i.rest ≡ suc (run in_name j.rest) = ap (run in_name) j.parts ∙ run_first in_name j.byte j.rest (dot_name _ j.byte_in) in
    omega (arith, label_number bs n h, i.number_is, j.number_is)

no_run : (q : Class → Bool) (f : List ℕ → Option ℕ) (bs : List ℕ) (r n : ℕ) → r ≡ 0 → more r (behind q f (drop r bs)) ≡ Some n → (k : ℕ) × (behind q f bs ≡ Some k)
no_run q f bs r n e h =
    let there : more 0 (behind q f bs) ≡ Some n = rw e at h in
    let k = more_is 0 n (behind q f bs) there in
    (k.0, k.1)

label_bytes : (bs : List ℕ) → Wins Label bs ByteString
label_bytes bs n m h g =
    let i = behind_is is_quote (longest (inside is_text Done)) bs m g in
    let none : run in_name bs ≡ 0 = ap (run in_name) i.parts ∙ run_stops in_name i.byte i.rest (quote_no_name _ i.byte_in) in
    let k = no_run is_colon (longest Done) bs (run in_name bs) n none h in
    absurd (apart is_quote is_colon (longest (inside is_text Done)) (longest Done) quote_no_colon bs m k.0 g k.1)

bytes_word : (bs : List ℕ) → Wins ByteString bs Word
bytes_word bs n m h g =
    let i = behind_is is_quote (longest (inside is_text Done)) bs n h in
    let none : run in_word bs ≡ 0 = ap (run in_word) i.parts ∙ run_stops in_word i.byte i.rest (quote_no_word _ i.byte_in) in
    let e : run in_word bs ≡ m = cc in
    omega (arith, i.number_is)

quoted_text : (bs : List ℕ) → Wins QuotedLabel bs Quoted
quoted_text bs n m h g =
    let a = cond_some (is_name (take (run no_quote bs) bs)) _ n h in
    let b = cond_some (is_text (take (run no_quote bs) bs)) _ m g in
    let x = more_is (run no_quote bs) n _ a.1 in
    let y = more_is (run no_quote bs) m _ b.1 in
    let i = behind_is is_quote (longest (One is_colon Done)) _ x.0 x.1 in
    let j = behind_is is_quote (longest Done) _ y.0 y.1 in
    let k = behind_is is_colon (longest Done) _ i.number i.found in
    let z : 0 ≡ j.number = let f = j.found in cc in
    omega (arith, i.number_is, j.number_is, k.number_is, x.2, y.2)

parted : (r s : TokenRow) (p q : Class → Bool) (f g : Form) → tail_of r ≡ One p f → tail_of s ≡ One q g → ((c : Class) → p c ≡ true → q c ≡ true → ⊥) → (bs : List ℕ) → Wins r bs s
parted r s p q f g d e never bs n m h k = absurd (apart p q (longest f) (longest g) never bs n m (rw d at h) (rw e at k))

mark_last : (r : TokenRow) (p : Class → Bool) (f : Form) → tail_of r ≡ One p f → (bs : List ℕ) → Wins r bs MetaMark
mark_last r p f e bs n m h g =
    let i = behind_is p (longest f) bs n (rw e at h) in
    let z : 0 ≡ m = cc in
    omega (arith, i.number_is)

pub ordered : (x : Class) (bs : List ℕ) → Ordered bs (rows_of x)
ordered c.LetterC bs = ((label_bytes bs, (label_word bs, tt)), ((bytes_word bs, tt), (tt, tt)))
ordered c.Letter bs = ((label_word bs, tt), (tt, tt))
ordered c.Underscore bs = ((label_word bs, tt), (tt, tt))
ordered c.Digit bs = ((label_digits bs, tt), (tt, tt))
ordered c.Minus bs = ((label_negative bs, tt), (tt, tt))
ordered c.Dollar bs = (tt, tt)
ordered c.Dot bs = ((label_dots bs, tt), (tt, tt))
ordered c.Quote bs = ((quoted_text bs, tt), (tt, tt))
ordered c.At bs = ((parted GlobalName QuotedGlobal _ _ _ _ refl refl name_quote bs, (parted GlobalName UnnamedGlobal _ _ _ _ refl refl name_digit bs, tt)), ((parted QuotedGlobal UnnamedGlobal _ _ _ _ refl refl quote_digit bs, tt), (tt, tt)))
ordered c.Percent bs = ((parted LocalName QuotedLocal _ _ _ _ refl refl name_quote bs, (parted LocalName UnnamedLocal _ _ _ _ refl refl name_digit bs, tt)), ((parted QuotedLocal UnnamedLocal _ _ _ _ refl refl quote_digit bs, tt), (tt, tt)))
ordered c.Bang bs = ((parted MetaName MetaNumber _ _ _ _ refl refl name_digit bs, (mark_last MetaName _ _ refl bs, tt)), ((mark_last MetaNumber _ _ refl bs, tt), (tt, tt)))
ordered c.Hash bs = ((parted Group RecordMark _ _ _ _ refl refl digit_letter bs, tt), (tt, tt))
ordered c.Colon bs = (tt, tt)
ordered c.Mark bs = (tt, tt)
ordered _ bs = tt

-- a row may begin with a byte if the byte has it in its list
pub listed : (x : Class) (r : TokenRow) → starts r x ≡ true → Among r (rows_of x)
listed c.LetterC Label h = inl refl
listed c.LetterC ByteString h = inr (inl refl)
listed c.LetterC Word h = inr (inr (inl refl))
listed c.Letter Label h = inl refl
listed c.Letter Word h = inr (inl refl)
listed c.Underscore Label h = inl refl
listed c.Underscore Word h = inr (inl refl)
listed c.Digit Label h = inl refl
listed c.Digit Digits h = inr (inl refl)
listed c.Minus Label h = inl refl
listed c.Minus Negative h = inr (inl refl)
listed c.Dollar Label h = inl refl
listed c.Dot Label h = inl refl
listed c.Dot Dots h = inr (inl refl)
listed c.Quote QuotedLabel h = inl refl
listed c.Quote Quoted h = inr (inl refl)
listed c.At GlobalName h = inl refl
listed c.At QuotedGlobal h = inr (inl refl)
listed c.At UnnamedGlobal h = inr (inr (inl refl))
listed c.Percent LocalName h = inl refl
listed c.Percent QuotedLocal h = inr (inl refl)
listed c.Percent UnnamedLocal h = inr (inr (inl refl))
listed c.Bang MetaName h = inl refl
listed c.Bang MetaNumber h = inr (inl refl)
listed c.Bang MetaMark h = inr (inr (inl refl))
listed c.Hash Group h = inl refl
listed c.Hash RecordMark h = inr (inl refl)
listed c.Colon Punctuation h = inl refl
listed c.Mark Punctuation h = inl refl
listed c.Semicolon Label h = absurd cc
listed c.LineFeed Label h = absurd cc
listed c.Blank Label h = absurd cc
listed c.Other Label h = absurd cc
listed _ _ h = absurd cc

abbrev pub StartAll : Class → List TokenRow → Type 0
StartAll x [] = Unit {0}
StartAll x (r ∷ rs) = (starts r x ≡ true) × StartAll x rs

-- and only then
pub begun : (x : Class) → StartAll x (rows_of x)
begun c.LetterC = (refl, (refl, (refl, tt)))
begun c.At = (refl, (refl, (refl, tt)))
begun c.Percent = (refl, (refl, (refl, tt)))
begun c.Bang = (refl, (refl, (refl, tt)))
begun c.Letter = (refl, (refl, tt))
begun c.Underscore = (refl, (refl, tt))
begun c.Digit = (refl, (refl, tt))
begun c.Minus = (refl, (refl, tt))
begun c.Dot = (refl, (refl, tt))
begun c.Quote = (refl, (refl, tt))
begun c.Hash = (refl, (refl, tt))
begun c.Dollar = (refl, tt)
begun c.Colon = (refl, tt)
begun c.Mark = (refl, tt)
begun _ = tt
