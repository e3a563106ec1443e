-- What stands in a span of a pool that ends where the pool ends.
use Rattle.std.proofs.Common.{◌≡◌, ℕ, List, ◌++◌, length, take, drop, map, sym, ap, ◌∙◌, arith, Result, Ok, Err, IfOk}
use Rattle.std.proofs.Math.Seq.{drop-append_seam, take-length}
use Rattle.std.proofs.lemmas.List.{drop-map, length-append, length-map, take-map}
use Rattle.run_rules.specs.Action as actions
use Rattle.run_actions.specs.declared.stack.origin.Origin.{Origin}
use Rattle.run_actions.specs.Stack.Origins.{origin_of}
use Rattle.run_decode.specs.declared.flat.leaf.Span.{Span}
use Rattle.run_decode.specs.declared.flat.pools.Pools.{Pools}
use Rattle.run_decode.specs.Flat.Grown.{AreLeaves}
use Rattle.run_decode.specs.Flat.Spans.{IsBetween, IsSpanIn, spanned}

-- a span up to the end of a list
pub between_in : {A : Type 0} (xs : List A) (first : ℕ) (s : Span) → IsBetween first (length xs) s → IsSpanIn xs s
between_in xs first s h = let ends = h.ends in let fits = h.fits in record { within = omega (arith, ends); fits = omega (arith, ends, fits) }

-- the items behind others
behind : {A : Type 0} (old more : List A) (n : ℕ) → n ≡ length more → take n (drop (length old) (old ++ more)) ≡ more
behind {A} old more n e = (λ i. take (e i) (drop-append_seam old more i)) ∙ take-length more

counted : {A : Type 0} (old more xs : List A) (s : Span) → xs ≡ old ++ more → IsBetween (length old) (length xs) s → s.count ≡ length more
counted old more xs s e h =
    let both = ap length e ∙ length-append old more in
    let begins = h.begins in
    let ends = h.ends in
    omega (arith, both, begins, ends)

-- a span over what a list has gained
pub spanned_more : {A : Type 0} (old more xs : List A) (s : Span) → xs ≡ old ++ more → IsBetween (length old) (length xs) s → spanned xs s ≡ more
spanned_more old more xs s e h = (λ i. take s.count (drop (h.begins i) (e i))) ∙ behind old more s.count (counted old more xs s e h)

-- the same where what it has gained is known by what the items mean
pub meant_more : {A B : Type 0} (f : A → B) (old xs : List A) (first : ℕ) (gained : List B) (s : Span) → map f xs ≡ map f old ++ gained → first ≡ length old → IsBetween first (length xs) s → map f (spanned xs s) ≡ gained
meant_more f old xs first gained s e here h =
    let n = length-map old f in
    let m = length-map xs f in
    let begins = h.begins in
    let ends = h.ends in
    let between : IsBetween (length (map f old)) (length (map f xs)) s = record { begins = begins ∙ here ∙ sym n; ends = ends ∙ sym m; fits = let fits = h.fits in omega (arith, m, fits) } in
    sym (take-map f s.count (drop s.first xs)) ∙ ap (take s.count) (sym (drop-map f s.first xs)) ∙ spanned_more (map f old) gained (map f xs) s e between

-- leaves that the origins have gained stand there
pub leaves_stand : (old : List Origin) (q : Pools) (first : ℕ) (gained : List actions.Origin) (s : Span) → map origin_of q.origins ≡ map origin_of old ++ gained → first ≡ length old → IsBetween first (length q.origins) s → AreLeaves q s gained
leaves_stand old q first gained s e here h = record { within = between_in q.origins first s h; means = meant_more origin_of old q.origins first gained s e here h }

-- the same where a span is answered
pub answered : {E : Type 0} (r : Result Span E) (old : List Origin) (q : Pools) (first : ℕ) (gained all : List actions.Origin) → map origin_of q.origins ≡ map origin_of old ++ gained → gained ≡ all → first ≡ length old
    → IfOk r (IsBetween first (length q.origins)) → IfOk r (λ span. AreLeaves q span all)
answered (Ok s) old q first gained all e same here h = leaves_stand old q first all s (e ∙ ap (λ (l : List actions.Origin). map origin_of old ++ l) same) here h
answered (Err x) old q first gained all e same here h = tt
