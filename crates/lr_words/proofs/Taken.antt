-- Where `clap` states no fault, it states that the words are taken.
use Rattle.std.proofs.Common.{◌≡◌, ◌∙◌, ◌≤◌, ◌==◌, ◌&&◌, ◌||◌, ℕ, zero, suc, Bool, true, false, not}
use Rattle.std.proofs.Common.{List, [], ◌∷◌, length, Option, Some, None, is_some, refl, sym, arith}
use Rattle.std.proofs.Common.{nat_lt, cond}
use Rattle.std.specs.Prelude.{slice_get}
use Rattle.std.specs.List.{list_all, list_any}
use Rattle.std.specs.Option.{option_map_or}
use Rattle.std.specs.Str.{chars}
use Rattle.std.proofs.lemmas.Bool.{and_parts, and_from, or_parts, or_left, false_from_ne_true}
use Rattle.std.proofs.lemmas.Bool.{not_from_false, eqb-true, ltb-false, le-leb}
use Rattle.clap.specs.Words.{App, Row, Rule, Shape, Text, built, is_simple, takes, fault_of, is_simple_and_free}
use Rattle.clap.specs.Lexer.{short_of}
use Rattle.clap.specs.Facts.{parser_of_value, unwrap_or_range}
use Rattle.clap.specs.ValueTests.{accepts}
use Rattle.clap.specs.Kinds.{Kinds, check_kinds, or_else, range_kinds, values_kinds}
use Rattle.clap.specs.Simple.{argument_words}
use Rattle.clap.specs.Walk.{Held, Step, Waiting, Walk, action_of, arg_by_id, arg_by_index}
use Rattle.clap.specs.Walk.{arg_by_long, arg_by_short, attached_value, finished, has_row, is_empty}
use Rattle.clap.specs.Walk.{most_values, nothing_held, reacted, settled, subcommand_met}
use Rattle.clap.specs.Walk.{takes_values, values_or_missing, walk, walk_from, walked, word_met}
use Rattle.clap.specs.Walk.{idle, option, positional, next, trailing, subcommand, value}
use Rattle.clap.specs.Takes.{action_passes, bundle_step_passes, count_passes, default_passes}
use Rattle.clap.specs.Takes.{flag_word_passes, flags_pass, is_given, level_passes, long_passes}
use Rattle.clap.specs.Takes.{option_passes, other_passes, positional_passes, react_passes}
use Rattle.clap.specs.Takes.{set_passes, settle_passes, short_passes, step_passes, turn_passes}
use Rattle.clap.specs.Takes.{use_passes, walk_passes, word_passes}
use Rattle.clap.specs.Faults.{action_fault, bundle_step_fault, count_fault, flag_word_fault}
use Rattle.clap.specs.Faults.{flags_fault, level_fault, long_fault, option_fault, other_fault}
use Rattle.clap.specs.Faults.{positional_fault, react_fault, set_fault, settle_fault, short_fault}
use Rattle.clap.specs.Faults.{step_fault, stray_fault, turn_fault, use_fault, walk_fault}
use Rattle.clap.specs.Faults.{word_fault}
use Rattle.clap.specs.declared.builder.action.ArgAction.{ArgAction}
use Rattle.clap.specs.declared.builder.action.ArgAction.TheVariants.{Set, Append, SetTrue, SetFalse}
use Rattle.clap.specs.declared.builder.action.ArgAction.TheVariants.{Count, Help, HelpShort}
use Rattle.clap.specs.declared.builder.action.ArgAction.TheVariants.{HelpLong, Version}
use Rattle.clap.specs.declared.builder.value_parser.ValueParser.{ValueParser}
use Rattle.clap.specs.declared.error.kind.ErrorKind.{ErrorKind}
use Rattle.clap.specs.declared.error.kind.ErrorKind.TheVariants as kind
use Rattle.clap.proofs.FaultLemmas.{leaf_fault}
use Rattle.clap.proofs.TakesLemmas.{leaf_takes}
use Rattle.lr_words.specs.Words.{is_covered, is_taken}

-- ---- lists of kinds that are empty

some_kind : (k : ErrorKind) (ks : Kinds) → k ∷ ks ≡ [] → ⊥
some_kind k ks e = cc

else_parts : (a b : Kinds) → or_else a b ≡ [] → (a ≡ []) × (b ≡ [])
else_parts [] b e = (refl, e)
else_parts (k ∷ ks) b e = absurd (some_kind k ks e)

if_none : (b : Bool) (k : ErrorKind) → cond b [] (k ∷ []) ≡ [] → b ≡ true
if_none true k e = refl
if_none false k e = absurd (some_kind k [] e)

then_none : (b : Bool) (k : ErrorKind) (rest : Kinds) → cond b (k ∷ []) rest ≡ [] → (b ≡ false) × (rest ≡ [])
then_none true k rest e = absurd (some_kind k [] e)
then_none false k rest e = (refl, e)

either_way : (b : Bool) (kinds : Kinds) (p : Bool) → (kinds ≡ [] → p ≡ true) → cond b [] kinds ≡ [] → (b || p) ≡ true
either_way true kinds p h e = refl
either_way false kinds p h e = h e

mapped : {X : Type 0} (f : X → Kinds) (g : X → Bool) → ((x : X) → f x ≡ [] → g x ≡ true) → (o : Option X)
    → option_map_or f o [] ≡ [] → option_map_or g o true ≡ true
mapped f g h None e = refl
mapped f g h (Some x) e = h x e

-- ---- one use of an argument

values_pass : (i : Bool) (p : ValueParser) (vs : List Text) → values_kinds i p vs ≡ []
    → list_all (accepts i p) vs ≡ true
values_pass i p [] e = refl
values_pass i p (v ∷ vs) e =
    let q = else_parts _ (values_kinds i p vs) e in
    and_from _ _ (if_none (accepts i p v) _ q.0) (values_pass i p vs q.1)

no_repeat : (has again : Bool) → cond (has && not again) (kind.ArgumentConflict ∷ []) [] ≡ []
    → (not has || again) ≡ true
no_repeat true true e = refl
no_repeat true false e = absurd (some_kind _ _ e)
no_repeat false again e = refl

set_pass : (again : Bool) (a : Rule) (values : List Text) (rows : List Row) → set_fault again a values rows ≡ []
    → set_passes again a values rows ≡ true
set_pass again a values rows e =
    let q = else_parts _ (values_kinds a.ignore_case (parser_of_value a.parser) values) e in
    and_from _ _ (no_repeat (has_row a.id rows) again q.0)
    (values_pass a.ignore_case (parser_of_value a.parser) values q.1)

count_pass : (a : Rule) (values : List Text) (rows : List Row) → count_fault a values rows ≡ []
    → count_passes a values rows ≡ true
count_pass a [] rows e = if_none _ _ e
count_pass a (v ∷ vs) rows e = values_pass a.ignore_case (parser_of_value a.parser) (v ∷ vs) e

action_pass : (x : ArgAction) (again : Bool) (a : Rule) (values : List Text) (rows : List Row)
    → action_fault x again a values rows ≡ [] → action_passes x again a values rows ≡ true
action_pass Set again a values rows e = set_pass again a values rows e
action_pass SetTrue again a values rows e = set_pass again a values rows e
action_pass SetFalse again a values rows e = set_pass again a values rows e
action_pass Append again a values rows e = values_pass a.ignore_case (parser_of_value a.parser) values e
action_pass Count again a values rows e = count_pass a values rows e
action_pass Help again a values rows e = absurd (some_kind _ _ e)
action_pass HelpShort again a values rows e = absurd (some_kind _ _ e)
action_pass HelpLong again a values rows e = absurd (some_kind _ _ e)
action_pass Version again a values rows e = absurd (some_kind _ _ e)

within : (least most n : ℕ) → range_kinds least most n ≡ [] → (least ≤ n) × (n ≤ most)
within least most n e = go (least == most) refl (then_none _ _ _ e).1
  where
    go : (b : Bool) → (least == most) ≡ b → cond b (cond (least == n) [] (kind.WrongNumberOfValues ∷ []))
        (cond (nat_lt n least) (kind.TooFewValues ∷ []) (cond (nat_lt most n) (kind.TooManyValues ∷ []) []))
        ≡ [] → (least ≤ n) × (n ≤ most)
    go true same f =
        let one : least ≡ most = eqb-true least most same in
        let two : least ≡ n = eqb-true least n (if_none _ _ f) in
        (omega arith, omega arith)
    go false same f =
        let q = then_none _ _ _ f in
        let low : least ≤ n = ltb-false n least q.0 in
        let high : n ≤ most = ltb-false most n (then_none _ _ _ q.1).0 in
        (low, high)

use_pass : (again : Bool) (a : Rule) (values : List Text) (rows : List Row) → use_fault again a values rows ≡ []
    → use_passes again a values rows ≡ true
use_pass again a values rows e =
    let q = else_parts (range_kinds (unwrap_or_range a.range).start_inclusive (most_values a) (length values))
    (action_fault (action_of a) again a (values_or_missing a values) rows) e in
    let r = within (unwrap_or_range a.range).start_inclusive (most_values a) (length values) q.0 in
    and_from _ _ (le-leb _ _ r.0)
    (and_from _ _ (le-leb _ _ r.1) (action_pass (action_of a) again a (values_or_missing a values) rows q.1))

-- ---- the walk

settle_pass : (c : List Rule) (again : Bool) (h : Held) → settle_fault c again h ≡ [] → settle_passes c again h ≡ true
settle_pass c again h e = mapped _ _ (λ p. mapped _ _ (λ a. use_pass again a p.1 h.rows) (arg_by_id c p.0)) h.pending e

react_pass : (c : List Rule) (again : Bool) (a : Rule) (values : List Text) (h : Held)
    → react_fault c again a values h ≡ [] → react_passes c again a values h ≡ true
react_pass c again a values h e =
    let q = else_parts (settle_fault c again h) (use_fault again a values (settled c h).rows) e in
    and_from _ _ (settle_pass c again h q.0) (use_pass again a values (settled c h).rows q.1)

option_pass : (c : List Rule) (again : Bool) (a : Rule) (v : Option Text) (h : Held)
    → option_fault c again a v h ≡ [] → option_passes c again a v h ≡ true
option_pass c again a (Some v) h e = react_pass c again a (v ∷ []) h e
option_pass c again a None h e = settle_pass c again h e

long_pass : (c : List Rule) (again : Bool) (o : Option Rule) (v : Option Text) (h : Held)
    → long_fault c again o v h ≡ [] → long_passes c again o v h ≡ true
long_pass c again None v h e = absurd (some_kind _ _ e)
long_pass c again (Some a) v h e = go (takes_values a) e
  where
    go : (b : Bool) → cond b (option_fault c again a v h)
        (cond (is_some v) (kind.TooManyValues ∷ []) (react_fault c again a [] h)) ≡ []
        → cond b (option_passes c again a v h) (not (is_some v) && react_passes c again a [] h) ≡ true
    go true f = option_pass c again a v h f
    go false f =
        let q = then_none (is_some v) _ (react_fault c again a [] h) f in
        and_from _ _ (not_from_false _ q.0) (react_pass c again a [] h q.1)

short_pass : (c : List Rule) (again : Bool) (o : Option Rule) (rest : Text) (h : Held) (f : Held → Kinds)
    (g : Held → Bool)
    → ((x : Held) → f x ≡ [] → g x ≡ true) → short_fault c again o rest h f ≡ []
    → short_passes c again o rest h g ≡ true
short_pass c again None rest h f g then e = absurd (some_kind _ _ e)
short_pass c again (Some a) rest h f g then e = go (takes_values a) e
  where
    go : (b : Bool) → cond b (option_fault c again a (attached_value rest) h)
        (or_else (react_fault c again a [] h) (f (reacted c a [] h))) ≡ []
        → cond b (option_passes c again a (attached_value rest) h) (react_passes c again a [] h
        && g (reacted c a [] h)) ≡ true
    go true e' = option_pass c again a (attached_value rest) h e'
    go false e' =
        let q = else_parts (react_fault c again a [] h) (f (reacted c a [] h)) e' in
        and_from _ _ (react_pass c again a [] h q.0) (then _ q.1)

bundle_pass : (c : List Rule) (again : Bool) (o : Option ℕ) (flags : Text) (skip : ℕ) (h : Held) (f : Text → ℕ
    → Held → Kinds) (g : Text → ℕ → Held → Bool)
    → ((t : Text) (k : ℕ) (x : Held) → f t k x ≡ [] → g t k x ≡ true)
    → bundle_step_fault c again o flags skip h f ≡ [] → bundle_step_passes c again o flags skip h g ≡ true
bundle_pass c again None flags skip h f g then e = refl
bundle_pass c again (Some x) flags zero h f g then e = short_pass c again (arg_by_short c x) _ h _ _ (λ y. then _ 0 y) e
bundle_pass c again (Some x) flags (suc k) h f g then e = then _ k h e

each_flag : (c : List Rule) (again : Bool) (k : ℕ) (flags : Text) (skip : ℕ) (h : Held)
    → flags_fault c again k flags skip h ≡ [] → flags_pass c again k flags skip h ≡ true
unfolding flags_fault flags_pass
each_flag c again zero flags skip h e = refl
each_flag c again (suc k) flags skip h e =
    bundle_pass c again (slice_get (chars flags) 0) flags skip h (flags_fault c again k) (flags_pass c again k)
    (λ t s x f. each_flag c again k t s x f) e

flag_pass : (c : List Rule) (again : Bool) (o : Option (Text × Option Text)) (word : Text) (h : Held)
    → flag_word_fault c again o word h ≡ [] → flag_word_passes c again o word h ≡ true
flag_pass c again (Some p) word h e = long_pass c again (arg_by_long c p.0) p.1 h e
flag_pass c again None word h e =
    mapped _ _ (λ flags. each_flag c again (length flags) flags h.skip (record h { skip = 0 })) (short_of word) e

other_pass : (s : Shape) (o : Option Text) (word : Text) (h : Held) → o ≡ None → other_fault s o word h ≡ []
    → other_passes s o word h ≡ true
other_pass s (Some name) word h none e = absurd (cc)
other_pass s None word h none e = either_way _ _ _ (flag_pass s.rules s.args_override_self _ word h) e

no_names : (waiting : Waiting) (word : Text) → subcommand_met [] waiting word ≡ None
no_names idle word = refl
no_names (option id) word = refl
no_names positional word = refl

word_pass : (s : Shape) (b : Bool) (waiting : Waiting) (word : Text) (h : Held)
    → word_fault s [] b waiting word h ≡ [] → word_passes s [] b waiting word h ≡ true
word_pass s b waiting word h e = either_way b _ _ (other_pass s _ word h (no_names waiting word)) e

positional_pass : (c : List Rule) (again : Bool) (a : Rule) (h : Held) → positional_fault c again a h ≡ []
    → positional_passes c again a h ≡ true
positional_pass c again a h e = either_way _ _ _ (settle_pass c again h) e

step_pass : (s : Shape) (place : ℕ) (h : Held) (step : Step) → step_fault s place h step ≡ []
    → step_passes s place h step ≡ true
step_pass s place h (next w) e = refl
step_pass s place h (trailing p) e = refl
step_pass s place h (subcommand n) e = refl
step_pass s place h value e = go (arg_by_index s.rules place) e
  where
    stray : (b : Bool) → cond b (kind.UnknownArgument ∷ []) (kind.UnknownArgument ∷ kind.InvalidSubcommand ∷ [])
        ≡ [] → ⊥
    stray true f = some_kind _ _ f
    stray false f = some_kind _ _ f

    go : (o : Option Rule) → option_map_or (λ a. positional_fault s.rules s.args_override_self a h) o
        (stray_fault s) ≡ []
        → option_map_or (λ a. positional_passes s.rules s.args_override_self a h) o false ≡ true
    go None f = absurd (stray s.is_leaf f)
    go (Some a) f = positional_pass s.rules s.args_override_self a h f

turn_pass : (s : Shape) (w : Walk) (word : Text) → turn_fault s [] w word ≡ [] → turn_passes s [] w word ≡ true
turn_pass s w word e = either_way (is_some w.stopped) _ _ (λ f.
    let met = word_met s.rules [] w.is_trailing w.waiting w.position word w.held in
    let q = else_parts (word_fault s [] w.is_trailing w.waiting word w.held) (step_fault s w.position met.0 met.1) f in
    and_from _ _ (word_pass s w.is_trailing w.waiting word w.held q.0) (step_pass s w.position met.0 met.1 q.1)) e

walk_pass : (s : Shape) (w : Walk) (words : List Text) → walk_fault s [] w words ≡ [] → walk_passes s [] w words ≡ true
unfolding walk_fault walk_passes
walk_pass s w [] e = refl
walk_pass s w (word ∷ rest) e =
    let q = else_parts (turn_fault s [] w word) (walk_fault s [] (walked s.rules [] w word) rest) e in
    and_from _ _ (turn_pass s w word q.0) (walk_pass s (walked s.rules [] w word) rest q.1)

-- ---- after the walk

no_defaults : (rules : List Rule) → list_all (λ a. is_empty a.defaults) rules ≡ true
    → list_all default_passes rules ≡ true
no_defaults [] e = refl
no_defaults (a ∷ rest) e = let q = and_parts _ _ e in and_from _ _ (or_left _ _ q.0) (no_defaults rest q.1)

all_given : (rules : List Rule) (rows : List Row) → list_any (λ a. a.required && not (is_given a.id rows)) rules ≡ false
    → list_all (λ a. not a.required || is_given a.id rows) rules ≡ true
all_given [] rows e = refl
all_given (a ∷ rest) rows e = let q = or_parts _ _ e in
    and_from _ _ (one a.required (is_given a.id rows) q.0) (all_given rest rows q.1)
  where
    one : (r g : Bool) → (r && not g) ≡ false → (not r || g) ≡ true
    one true true f = refl
    one true false f = sym f
    one false g f = refl

checked : (help any sub negates wants free all : Bool)
    → check_kinds (help && not any) sub (not (negates && false) && wants) ≡ [] → free ≡ true
    → (wants ≡ false → all ≡ true)
    → ((not help || any) && ((not sub || false) && (free && ((negates && false) || all)))) ≡ true
checked help any sub negates wants free all e f h =
    let a = then_none _ _ _ e in
    let b = then_none sub _ _ a.1 in
    let c = then_none _ _ _ b.1 in
    and_from _ _ (first help any a.0) (and_from _ _ (rw b.0 refl) (and_from _ _ f (last negates c.0)))
  where
    first : (r g : Bool) → (r && not g) ≡ false → (not r || g) ≡ true
    first true true f = refl
    first true false f = sym f
    first false g f = refl

    last : (n : Bool) → (not (n && false) && wants) ≡ false → ((n && false) || all) ≡ true
    last true w = h w
    last false w = h w

level_pass : (s : Shape) (words : List Text) → list_all (λ a. is_empty a.defaults) s.rules ≡ true
    → list_all (λ a. a.is_free) s.rules ≡ true
    → level_fault s [] nothing_held words false [] ≡ [] → level_passes s [] nothing_held words false ≡ true
level_pass s words plain free e =
    let end = (walk s.rules [] nothing_held words).held in
    let a = else_parts (walk_fault s [] (walk_from nothing_held) words) _ e in
    let b = else_parts (settle_fault s.rules s.args_override_self end) _ a.1 in
    let c = else_parts _ _ b.1 in
    and_from _ _ (walk_pass s (walk_from nothing_held) words a.0)
    (and_from _ _ (settle_pass s.rules s.args_override_self end b.0)
    (and_from _ _ (no_defaults s.rules plain)
    (checked _ _ _ _ _ _ _ c.1 free (all_given s.rules (finished s.rules end)))))

-- ---- a command

pub covered_free : (app : App) → is_covered app ≡ true → is_simple_and_free app ≡ true
unfolding is_covered
covered_free app e = (and_parts _ _ e).0

pub covered_simple : (app : App) → is_covered app ≡ true → is_simple app ≡ true
covered_simple app e = (and_parts _ _ (covered_free app e)).0

pub refused_since : (app : App) (words : List Text) → (takes app words ≡ true → ⊥) → is_taken app words ≡ false
unfolding is_taken
refused_since app words h = false_from_ne_true _ h

empty_is : {X : Type 0} (xs : List X) → is_empty xs ≡ true → xs ≡ []
empty_is [] e = refl
empty_is (x ∷ xs) e = let same : suc (length xs) ≡ 0 = eqb-true _ _ e in absurd (omega arith)

pub taken_unless : (app : App) (words : List Text) → is_covered app ≡ true → fault_of app words ≡ []
    → is_taken app words ≡ true
unfolding is_covered is_taken
taken_unless app words c e =
    let free = (and_parts _ _ (and_parts _ _ (and_parts _ _ c).0).1).0 in
    let rest = and_parts _ _ (and_parts _ _ c).1 in
    let none : (built app).subs ≡ [] = empty_is _ rest.0 in
    let level = sym (leaf_fault (built app) nothing_held (argument_words app words) none) ∙ e in
    and_from _ _ (covered_simple app c) (leaf_takes (built app) nothing_held (argument_words app words) none
    (level_pass (built app).top (argument_words app words) rest.1 free level))
