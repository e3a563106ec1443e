-- Arms, parts and cases that were appended to pools stand there.
use Rattle.std.proofs.Common.{◌≡◌, ℕ, suc, ◌+◌, ◌<◌, Bool, List, [], ◌∷◌, ◌++◌, All, Result, Ok, Err, IfOk, OnOk, length, take, get_or, map, refl, sym, ap, ◌∙◌, subst, arith}
use Rattle.std.proofs.Math.Seq.{take-suc}
use Rattle.std.proofs.lemmas.List.{map-append}
use Rattle.std.proofs.lemmas.List.Elements.{All-head, All-nil, All-push, All-tail}
use Rattle.run_rules.specs.Action as actions
use Rattle.run_actions.specs.declared.edge.SwitchWay.{SwitchWay}
use Rattle.run_actions.specs.declared.values.Arm.{Arm}
use Rattle.run_actions.specs.declared.values.FrozenLeaf.{FrozenLeaf}
use Rattle.run_actions.specs.Edges.{case_way}
use Rattle.run_actions.specs.Values.{arm_of, part_of}
use Rattle.run_decode.specs.declared.flat.leaf.Span.{Span}
use Rattle.run_decode.specs.declared.flat.pools.Pools.{Pools}
use Rattle.run_decode.specs.Flat.Flat.{HasItsMoves}
use Rattle.run_decode.specs.Flat.Grown.{Adds, AreArms, AreCases, AreParts, Grows}
use Rattle.run_decode.specs.Flat.Spans.{IsBetween}
use Rattle.run_decode.proofs.OnFlat.Growth.{adds_then, cases_add, its_moves_stay, way_same}
use Rattle.run_decode.proofs.OnFlat.Spanned.{between_in, spanned_more}
use Rattle.run_decode.specs.Operands.Endings.{AreMeant}

-- ---- arms and parts

pub arms_put : {E : Type 0} (r : Result Span E) (p : Pools) (all arms : List Arm) (meant : List (actions.Origin × actions.Origin)) → IfOk r (IsBetween (length p.arms) (length all)) → OnOk r (all ≡ p.arms ++ arms) → map arm_of arms ≡ meant
    → IfOk r (λ span. AreArms (record p { arms = all }) span meant)
arms_put (Ok s) p all arms meant h e same = record { within = between_in all (length p.arms) s h; means = ap (map arm_of) (spanned_more p.arms arms all s e h) ∙ same }
arms_put (Err x) p all arms meant h e same = tt

pub parts_put : {E : Type 0} (r : Result Span E) (p : Pools) (all parts : List FrozenLeaf) (meant : List (Bool × actions.Origin)) → IfOk r (IsBetween (length p.parts) (length all)) → OnOk r (all ≡ p.parts ++ parts) → map part_of parts ≡ meant
    → IfOk r (λ span. AreParts (record p { parts = all }) span meant)
parts_put (Ok s) p all parts meant h e same = record { within = between_in all (length p.parts) s h; means = ap (map part_of) (spanned_more p.parts parts all s e h) ∙ same }
parts_put (Err x) p all parts meant h e same = tt

-- ---- cases

ways_same : (p q : Pools) (g : Grows p q) (cs : List SwitchWay) → All (λ (c : SwitchWay). HasItsMoves p c.edge) cs → map (case_way q.moves) cs ≡ map (case_way p.moves) cs
ways_same p q g [] h = refl
ways_same p q g (c ∷ cs) h =
    let here = way_same p q g c.edge (All-head (λ (x : SwitchWay). HasItsMoves p x.edge) c cs h) in
    let others = ways_same p q g cs (All-tail (λ (x : SwitchWay). HasItsMoves p x.edge) c cs h) in
    λ i. (c.number, here i) ∷ others i

pub meant_still : (p q : Pools) (cs : List SwitchWay) (meant : List (ℕ × actions.Edge)) → Grows p q → AreMeant p cs meant → AreMeant q cs meant
meant_still p q cs meant g h = record { moves = λ k d lt. its_moves_stay p q g (get_or cs k d).edge (h.moves k d lt); means = ways_same p q g cs h.moves ∙ h.means }

pub meant_none : {A : Type 0} (p : Pools) (one : A → ℕ × actions.Edge) (xs : List A) → AreMeant p [] (map one (take 0 xs))
meant_none p one xs = record { moves = All-nil (λ (c : SwitchWay). HasItsMoves p c.edge); means = refl }

-- one more
pub meant_more : {A : Type 0} (p q : Pools) (one : A → ℕ × actions.Edge) (xs : List A) (k : ℕ) (x d : A) (cs : List SwitchWay) (c : SwitchWay) → Grows p q → k < length xs → x ≡ get_or xs k d → HasItsMoves q c.edge → case_way q.moves c ≡ one x
    → AreMeant p cs (map one (take k xs)) → AreMeant q (cs ++ c ∷ []) (map one (take (k + 1) xs))
meant_more {A} p q one xs k x d cs c g lt is moves way h =
    let count : k + 1 ≡ suc k = omega arith in
    let front : take (k + 1) xs ≡ take k xs ++ x ∷ [] = ap (λ (n : ℕ). take n xs) count ∙ take-suc xs k d lt ∙ ap (λ (y : A). take k xs ++ y ∷ []) (sym is) in
    let still = meant_still p q cs (map one (take k xs)) g h in
    record {
      moves = All-push (λ (x : SwitchWay). HasItsMoves q x.edge) cs c still.moves moves;
      means = map-append (case_way q.moves) cs (c ∷ []) ∙ (λ j. still.means j ++ way j ∷ []) ∙ sym (ap (map one) front ∙ map-append one (take k xs) (x ∷ []));
    }

-- behind those that were there
pub cases_put : {E : Type 0} (r : Result Span E) (p : Pools) (all cs : List SwitchWay) (meant : List (ℕ × actions.Edge)) → IfOk r (IsBetween (length p.cases) (length all)) → OnOk r (all ≡ p.cases ++ cs) → AreMeant p cs meant
    → IfOk r (λ span. AreCases (record p { cases = all }) span meant)
cases_put (Ok s) p all cs meant h e given =
    let q : Pools = record p { cases = all } in
    let here = spanned_more p.cases cs all s e h in
    let still = meant_still p q cs meant (cases_add p all (cs, e)).grows given in
    record {
      within = record { there = between_in all (length p.cases) s h; moves = subst (All (λ (c : SwitchWay). HasItsMoves q c.edge)) (sym here) still.moves };
      means = ap (map (case_way q.moves)) here ∙ still.means;
    }
cases_put (Err x) p all cs meant h e given = tt

pub grown_cases : {E : Type 0} (r : Result Span E) (p q : Pools) (all cs : List SwitchWay) → Adds p q → OnOk r (all ≡ q.cases ++ cs) → OnOk r (Adds p (record q { cases = all }))
grown_cases (Ok s) p q all cs h e = adds_then p q (record q { cases = all }) h (cases_add q all (cs, e))
grown_cases (Err x) p q all cs h e = tt
