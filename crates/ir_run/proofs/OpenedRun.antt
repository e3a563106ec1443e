-- Each way in which a run opens.
use Rattle.std.proofs.Common.{◌≡◌, ℕ, ◌+◌, ◌<◌, take, length, get_or, List, [], ◌∷◌, ◌++◌, map, Option, Some, None, Result, Ok, Err, refl, sym, ap, ◌∙◌}
use Rattle.std.proofs.lemmas.List.{map_more}
use Rattle.std.proofs.lemmas.Option.{slice_get-map, get_or_from_slice_get}
use Rattle.ir_memory.specs.Memory.{Blocks, no_blocks}
use Rattle.module_arena.specs.declared.entry.Alias.{Alias}
use Rattle.module_arena.specs.declared.entry.Function.{Function}
use Rattle.module_arena.specs.declared.entry.GlobalId.{GlobalId}
use Rattle.module_arena.specs.declared.entry.GlobalId.TheVariants as global
use Rattle.module_arena.specs.declared.entry.Variable.{Variable}
use Rattle.module_arena.specs.Lists.{Lists, global_name, name_at}
use Rattle.module_arena.specs.View.{module_of}
use Rattle.run_acts.specs.Dues.{due_of}
use Rattle.run_acts.specs.declared.due.DueCall.{DueCall}
use Rattle.run_acts.specs.declared.due.DueCall.TheVariants as calls
use Rattle.run_names.specs.Told.{alone}
use Rattle.run_rules.specs.declared.end.End.{End}
use Rattle.run_rules.specs.declared.end.End.TheVariants.{MemoryLimit, NoMain, Unresolved}
use Rattle.ir_run.specs.Constructors.{constructor_seen}
use Rattle.ir_run.specs.declared.order.Constructor as the_constructor
use Rattle.run_rules.specs.Access.{and_then}
use Rattle.run_rules.specs.Opening.{opened, opened_from, opened_main, opening_core, ready, sealed, with_contents, with_main, with_variables}
use Rattle.run_rules.specs.Plan as plans
use Rattle.run_rules.specs.Plan.{constructors}
use Rattle.run_rules.specs.State as rules
use Rattle.run_rules.specs.State.{Core, Due, Constructor}

-- before the first instruction
abbrev core_with : List Due → Blocks → Result Core End
core_with due m = Ok (record { frames = []; due = due; memory = m })

-- ---- with a main

module _ (p : plans.Plan) (main : plans.Main) (words : List (List ℕ)) where
  abbrev behind_variables : Result Blocks End → Result Core End
  behind_variables r = and_then r (λ m. and_then (with_main main words m) (λ x. Ok (ready p x)))

  abbrev behind_main : Result (Blocks × Due) End → Result Core End
  behind_main r = and_then r (λ x. Ok (ready p x))

  pub variables_full : with_variables p.variables no_blocks ≡ Err MemoryLimit → opening_core p main words ≡ Err MemoryLimit
  variables_full e = ap behind_variables e

  module _ (m : Blocks) (e : with_variables p.variables no_blocks ≡ Ok m) where
    pub words_full : with_main main words m ≡ Err MemoryLimit → opening_core p main words ≡ Err MemoryLimit
    words_full f = ap behind_variables e ∙ ap behind_main f

    pub all_placed : (n o q : Blocks) (call : Due) (due : List Due) → with_main main words m ≡ Ok (n, call) → o ≡ with_contents p.stores n → q ≡ sealed o → due ≡ map Constructor p.constructors ++ call ∷ []
        → opening_core p main words ≡ Ok (record { frames = []; due = due; memory = q })
    all_placed n o q call due f stored closed is =
        ap behind_variables e ∙ ap behind_main f ∙ (λ j. core_with (sym is j) (sym (closed ∙ ap sealed stored) j))

-- ---- what comes before

pub main_missing : (p : plans.Plan) (words : List (List ℕ)) (found : Option plans.Main) → None ≡ found → opened_main p found words ≡ Err NoMain
main_missing p words found none = ap (λ (o : Option plans.Main). opened_main p o words) (sym none)

pub main_there : (p : plans.Plan) (main : plans.Main) (words : List (List ℕ)) (found : Option plans.Main) → Some main ≡ found → opened_main p found words ≡ opening_core p main words
main_there p main words found some = ap (λ (o : Option plans.Main). opened_main p o words) (sym some)

pub none_missing : (p : plans.Plan) (words : List (List ℕ)) → None ≡ p.missing → opened p words ≡ opened_main p p.main words
none_missing p words all = ap (λ (o : Option (List ℕ)). opened_from p o words) (sym all)

pub name_missing : (p : plans.Plan) (words : List (List ℕ)) (name : List ℕ) → Some name ≡ p.missing → opened p words ≡ Err (Unresolved name)
name_missing p words name is = ap (λ (o : Option (List ℕ)). opened_from p o words) (sym is)

-- the name of an entry
pub name_is : (a : Lists) (g : GlobalId) (name : List ℕ) → global_name a g ≡ Some name → name_at a g ≡ name
name_is a (global.Variable id) name h = get_or_from_slice_get (map (λ (v : Variable). v.name) a.variables) id name [] (slice_get-map (λ (v : Variable). v.name) a.variables id ∙ h)
name_is a (global.Function id) name h = get_or_from_slice_get (map (λ (f : Function). f.name) a.functions) id name [] (slice_get-map (λ (f : Function). f.name) a.functions id ∙ h)
name_is a (global.Alias id) name h = get_or_from_slice_get (map (λ (x : Alias). x.name) a.aliases) id name [] (slice_get-map (λ (x : Alias). x.name) a.aliases id ∙ h)

-- ---- what is due

-- the call of a constructor
abbrev pub call_of : the_constructor.Constructor → DueCall
call_of c = calls.Constructor c.address

pub call_more : (cs : List the_constructor.Constructor) (k : ℕ) (x : the_constructor.Constructor) (ds : List DueCall) → k < length cs → ds ≡ map call_of (take k cs) → ds ++ calls.Constructor (get_or cs k x).address ∷ [] ≡ map call_of (take (k + 1) cs)
call_more cs k x ds lt before = ap (λ (l : List DueCall). l ++ call_of (get_or cs k x) ∷ []) before ∙ sym (map_more call_of cs k x lt)

calls_seen : (cs : List the_constructor.Constructor) (main : DueCall) → map due_of (map call_of cs ++ main ∷ []) ≡ map rules.Constructor (map (λ (c : plans.Constructor). c.1) (map constructor_seen cs)) ++ due_of main ∷ []
calls_seen [] main = refl
calls_seen (c ∷ cs) main = ap (λ (l : List Due). rules.Constructor c.address ∷ l) (calls_seen cs main)

pub all_due : (a : Lists) (cs : List the_constructor.Constructor) (main : DueCall) → map constructor_seen cs ≡ constructors (alone (module_of a))
    → map due_of (map call_of cs ++ main ∷ []) ≡ map rules.Constructor (plans.plan (alone (module_of a))).constructors ++ due_of main ∷ []
all_due a cs main told =
    calls_seen cs main
    ∙ ap (λ (l : List plans.Constructor). map rules.Constructor (map (λ (c : plans.Constructor). c.1) l) ++ due_of main ∷ []) told
