-- What clap reads of the rules of each command, what it matches in words that have the form, and that it takes them.
use Rattle.std.proofs.Common.{◌&&◌, ◌||◌, not, cond, find, is_some, lit<, ◌≡◌, ◌<◌, ◌∙◌, refl, sym, ap, subst, arith, ℕ, zero, suc, Bool, true, false, List, [], ◌∷◌, ◌++◌, map, length, Option, Some, None, option_map, slice_index_or, unwrap_or, bytes_eq, codes, All, Contains}
use Rattle.clap.specs.Lexer.{long_of}
use Rattle.std.specs.List.{list_all}
use Rattle.std.specs.Box.{box_value}
use Rattle.std.specs.Option.{option_map_or}
use Rattle.std.specs.Prelude.{IsSome}
use Rattle.std.proofs.lemmas.Slice.Eq.{bytes_eq-Decides}
use Rattle.clap.specs.Facts.{explicit_source}
use Rattle.clap.specs.Walk.{Names, Row, Rule, Walk, all_of, arg_by_id, arg_by_long, finished, first_of, nothing_held, rows_after, walk, walk_from, walked}
use Rattle.clap.specs.Takes.{default_passes, entered_passes, is_given, is_valid, level_passes, settle_passes, takes, walk_passes}
use Rattle.clap.specs.Simple.{Shape, built, entered, filled, filled_from, help_rule, is_simple, names_of, subcommand_of}
use Rattle.clap.specs.Words.{found_of, rows_of, subcommand_name_of, subcommand_rows_of}
use Rattle.clap.specs.declared.parser.matches.ArgMatches.{ArgMatches}
use Rattle.clap.specs.declared.parser.matches.ArgMatches.TheViews.{out-ArgMatches, out-SubCommand}
use Rattle.clap.proofs.WalkLemmas.{walk_stopped}
use Rattle.clap.proofs.OnLiterals.{clap_on_literals}
use Rattle.command_words.specs.declared.matching.Command.{Command}
use Rattle.command_words.specs.declared.matching.Command.TheVariants.{Synth, Check, Run, Gen}
use Rattle.command_words.specs.declared.matching.Matched.{Matched}
use Rattle.command_words.specs.Words.{Use, Tells}
use Rattle.command_words.specs.Inner.Matching.{HasForm, IsForm, IsMatched, options_of, required_of, value_in}
use Rattle.command_words.specs.Inner.Parser.{IsReadFrom, name_of, option_rule, parser_app, rules_for, shape_for}
use Rattle.command_words.proofs.MatchingRows.{IsFresh, all_given, are_fresh, first_given, given, row_for}
use Rattle.command_words.proofs.MatchingWalk.{EndsWith, Reads, TakeNames, ends}

-- ---- the parser
pub parser_is_simple : is_simple parser_app ≡ true
parser_is_simple = refl

-- the rules of a command, as clap builds them
abbrev pub words_rules : Command → List Rule
words_rules command = filled_from 1 (rules_for command ++ help_rule ∷ [])

-- the parser of the words after the name of a command, as clap builds it
abbrev pub words_shape : Command → Shape
words_shape command = record (shape_for command) { rules = words_rules command; no_binary_name = true; disable_help_subcommand = true; is_built = true }

-- the first word names the command, and clap matches the others by its rules
pub entered_at : (command : Command) (words : List (List ℕ)) → subcommand_of parser_app (name_of command ∷ words) ≡ Some (name_of command, rows_after (words_rules command) [] words)
unfolding clap_on_literals
entered_at Synth words = ap (λ (w : Walk). entered (built parser_app) w.stopped) (sym (walk_stopped (built parser_app).top.rules (names_of (built parser_app)) (walk_from nothing_held) (codes "synth") [] words))
entered_at Check words = ap (λ (w : Walk). entered (built parser_app) w.stopped) (sym (walk_stopped (built parser_app).top.rules (names_of (built parser_app)) (walk_from nothing_held) (codes "check") [] words))
entered_at Run words = ap (λ (w : Walk). entered (built parser_app) w.stopped) (sym (walk_stopped (built parser_app).top.rules (names_of (built parser_app)) (walk_from nothing_held) (codes "run") [] words))
entered_at Gen words = ap (λ (w : Walk). entered (built parser_app) w.stopped) (sym (walk_stopped (built parser_app).top.rules (names_of (built parser_app)) (walk_from nothing_held) (codes "gen") [] words))

-- ---- the rules
takes_names : (command : Command) → TakeNames (words_rules command)
takes_names Synth = record { by_index = refl; by_id = refl; no_defaults = (refl, (refl, (refl, (refl, (refl, (refl, (refl, tt))))))) }
takes_names Check = record { by_index = refl; by_id = refl; no_defaults = (refl, (refl, (refl, (refl, (refl, tt))))) }
takes_names Run = record { by_index = refl; by_id = refl; no_defaults = (refl, (refl, (refl, (refl, (refl, tt))))) }
takes_names Gen = record { by_index = refl; by_id = refl; no_defaults = (refl, (refl, tt)) }

read_by : (rules : List Rule) (name : List ℕ) (is_required : Bool) → arg_by_id rules name ≡ Some (filled (option_rule name is_required)) → arg_by_long rules name ≡ Some (filled (option_rule name is_required))
    → long_of (codes "--" ++ name) ≡ Some (name, None) → bytes_eq (codes "--" ++ name) (45 ∷ 45 ∷ []) ≡ false
    → ((value : List ℕ) → long_of (codes "--" ++ name ++ codes "=" ++ value) ≡ Some (name, Some value)) → ((value : List ℕ) → bytes_eq (codes "--" ++ name ++ codes "=" ++ value) (45 ∷ 45 ∷ []) ≡ false)
    → bytes_eq name (codes "names") ≡ false → Reads rules name
read_by rules name is_required by_id by_long alone alone_no_end with_value with_value_no_end no_names = record {
  is_required = is_required;
  by_id = by_id;
  by_long = by_long;
  alone = alone;
  alone_no_end = alone_no_end;
  with_value = with_value;
  with_value_no_end = with_value_no_end;
  no_names = no_names;
}

abbrev AllRead : List Rule → List (List ℕ) → Type 0
AllRead rules [] = Unit {0}
AllRead rules (name ∷ names) = Reads rules name × AllRead rules names

options_read : (command : Command) → AllRead (words_rules command) (options_of command)
options_read Synth = (
  read_by (words_rules Synth) (codes "pointers") true refl refl refl refl (λ _. refl) (λ _. refl) refl,
  (
    read_by (words_rules Synth) (codes "lines") true refl refl refl refl (λ _. refl) (λ _. refl) refl,
    (
      read_by (words_rules Synth) (codes "budget") false refl refl refl refl (λ _. refl) (λ _. refl) refl,
      (
        read_by (words_rules Synth) (codes "run") false refl refl refl refl (λ _. refl) (λ _. refl) refl,
        (
          read_by (words_rules Synth) (codes "order") false refl refl refl refl (λ _. refl) (λ _. refl) refl,
          tt,
        ),
      ),
    ),
  ),
)
options_read Check = (
  read_by (words_rules Check) (codes "pointers") true refl refl refl refl (λ _. refl) (λ _. refl) refl,
  (
    read_by (words_rules Check) (codes "lines") true refl refl refl refl (λ _. refl) (λ _. refl) refl,
    (
      read_by (words_rules Check) (codes "answer") true refl refl refl refl (λ _. refl) (λ _. refl) refl,
      tt,
    ),
  ),
)
options_read Run = (
  read_by (words_rules Run) (codes "pointers") true refl refl refl refl (λ _. refl) (λ _. refl) refl,
  (
    read_by (words_rules Run) (codes "program") true refl refl refl refl (λ _. refl) (λ _. refl) refl,
    (
      read_by (words_rules Run) (codes "run") false refl refl refl refl (λ _. refl) (λ _. refl) refl,
      tt,
    ),
  ),
)
options_read Gen = tt

read_at : (rules : List Rule) (options : List (List ℕ)) (name : List ℕ) (k : ℕ) → k < length options → slice_index_or options k name ≡ name → AllRead rules options → Reads rules name
read_at rules [] name k within same all = absurd (omega (arith, within))
read_at rules (first ∷ options) name zero within same all = subst (Reads rules) same all.0
read_at rules (first ∷ options) name (suc k) within same all = read_at rules options name k (omega (arith, within)) same all.1

-- an option of the command is read as one
option_read : (command : Command) (name : List ℕ) → Contains (options_of command) name → Reads (words_rules command) name
option_read command name known = read_at (words_rules command) (options_of command) name known.0 known.1 known.2 (options_read command)

names_fresh : (rules : List Rule) (uses : List Use) → All (λ one. Reads rules one.name) uses → IsFresh (codes "names") uses
names_fresh rules [] all = tt
names_fresh rules (one ∷ uses) all = ((all zero one (omega arith)).no_names, names_fresh rules uses (λ k d within. all (suc k) d (omega (arith, within))))

-- ---- the form
reads_all : (command : Command) (uses : List Use) → All (λ one. Contains (options_of command) one.name) uses → All (λ one. Reads (words_rules command) one.name) uses
reads_all command uses known k d within = option_read command (slice_index_or uses k d).name (known k d within)

-- what the walk over words that have the form ends with
form_ends : (command : Command) (uses : List Use) (name : List ℕ) (names words : List (List ℕ)) → IsForm command uses (name ∷ names) words
    → EndsWith (words_shape command) words (map row_for uses ++ given (codes "names") (name ∷ names) ∷ [])
form_ends command uses name names words form =
    let all = reads_all command uses form.options.known in
    ends (words_shape command) uses name names words (takes_names command) form.options.spelled all (are_fresh [] uses (λ k d within. tt) form.options.once)
    (names_fresh (words_rules command) uses all) form.values form.are_names form.some_instances form.few_instances

-- the names in its rows
rows_named : (command : Command) (uses : List Use) (names words : List (List ℕ)) (rows : List Row) → IsForm command uses names words → rows ≡ rows_after (words_rules command) [] words → all_of (codes "names") rows ≡ Some names
rows_named command uses [] words rows form same =
    let some : 1 < 0 = form.some_instances in
    absurd (omega (arith, some))
rows_named command uses (name ∷ names) words rows form same =
    ap (all_of (codes "names")) (same ∙ (form_ends command uses name names words form).finishes)
    ∙ all_given (codes "names") (name ∷ names) uses (names_fresh (words_rules command) uses (reads_all command uses form.options.known))

of_form : (command : Command) (uses : List Use) (names words : List (List ℕ)) (rows : List Row) (matched : Matched) → IsForm command uses names words → rows ≡ rows_after (words_rules command) [] words → IsReadFrom rows matched
    → IsMatched command words matched
of_form command uses [] words rows matched form same read =
    let some : 1 < 0 = form.some_instances in
    absurd (omega (arith, some))
of_form command uses (name ∷ names) words rows matched form same read =
    let end : rows ≡ map row_for uses ++ given (codes "names") (name ∷ names) ∷ [] = same ∙ (form_ends command uses name names words form).finishes in
    let value : (id : List ℕ) → bytes_eq (codes "names") id ≡ false → first_of id rows ≡ value_in uses id =
    λ id differ. ap (first_of id) end ∙ first_given id (codes "names") (name ∷ names) uses differ in
    let some_names : Some (name ∷ names) ≡ Some matched.names = sym (rows_named command uses (name ∷ names) words rows form same) ∙ read.names in
    let same_names : name ∷ names ≡ matched.names = ap (λ (o : Option (List (List ℕ))). unwrap_or o []) some_names in
    record {
      uses = uses;
      form = subst (λ (ns : List (List ℕ)). IsForm command uses ns words) same_names form;
      pointers = read.pointers ∙ value (codes "pointers") refl;
      lines = read.lines ∙ value (codes "lines") refl;
      budget = read.budget ∙ value (codes "budget") refl;
      run = read.run ∙ value (codes "run") refl;
      order = read.order ∙ value (codes "order") refl;
      answer = read.answer ∙ value (codes "answer") refl;
      program = read.program ∙ value (codes "program") refl;
    }

-- in words that have the form clap matches what they say
pub matched_of : (command : Command) (words : List (List ℕ)) (rows : List Row) (matched : Matched) → HasForm command words
    → Some rows ≡ option_map (λ (p : List ℕ × List Row). p.1) (subcommand_of parser_app (name_of command ∷ words)) → IsReadFrom rows matched → IsMatched command words matched
matched_of command words rows matched form entered read =
    let same : rows ≡ rows_after (words_rules command) [] words =
    ap (λ (o : Option (List Row)). unwrap_or o []) (entered ∙ ap (option_map (λ (p : List ℕ × List Row). p.1)) (entered_at command words)) in
    of_form command form.0 form.1 words rows matched form.2 same read

-- and there are names
pub names_matched : (command : Command) (words : List (List ℕ)) (rows : List Row) → HasForm command words
    → Some rows ≡ option_map (λ (p : List ℕ × List Row). p.1) (subcommand_of parser_app (name_of command ∷ words)) → IsSome (all_of (codes "names") rows)
names_matched command words rows form entered =
    let same : rows ≡ rows_after (words_rules command) [] words =
    ap (λ (o : Option (List Row)). unwrap_or o []) (entered ∙ ap (option_map (λ (p : List ℕ × List Row). p.1)) (entered_at command words)) in
    ap is_some (rows_named command form.0 form.1 words rows form.2 same)

first_part : {A : Type 0} (f : A → List ℕ) (g : A → List Row) (o : Option A) (name : List ℕ) (rows : List Row) → option_map {U = List ℕ × List Row} (λ a. (f a, g a)) o ≡ Some (name, rows) → option_map f o ≡ Some name
first_part f g None name rows is = ap (option_map (λ (p : List ℕ × List Row). p.0)) is
first_part f g (Some a) name rows is = ap (option_map (λ (p : List ℕ × List Row). p.0)) is

-- the subcommand that is matched is the command
pub command_matched : (command : Command) (words : List (List ℕ)) (matches : ArgMatches) → subcommand_rows_of matches ≡ subcommand_of parser_app (name_of command ∷ words) → subcommand_name_of matches ≡ Some (name_of command)
command_matched command words matches is =
    first_part (λ b. (out-SubCommand (box_value b)).name.now) (λ b. rows_of (found_of (out-SubCommand (box_value b)).matches)) (out-ArgMatches matches).subcommand (name_of command) (rows_after (words_rules command) [] words) (is ∙ entered_at command words)

-- ---- the words are taken
-- an option that is used is given
told_is_given : (id : List ℕ) (uses : List Use) (more : List Row) (k : ℕ) (d : Use) → k < length uses → (slice_index_or uses k d).name ≡ id → is_given id (map row_for uses ++ more) ≡ true
told_is_given id [] more k d within same = absurd (omega (arith, within))
told_is_given id (one ∷ uses) more zero d within same =
    let here : bytes_eq one.name id ≡ true = (bytes_eq-Decides one.name id).1 same in
    rw here refl
told_is_given id (one ∷ uses) more (suc k) d within same = go (bytes_eq one.name id) (told_is_given id uses more k d (omega (arith, within)) same)
  where
    go : (t : Bool) → option_map_or (λ (row : Row). explicit_source row.source) (find (λ (row : Row). bytes_eq row.id id) (map row_for uses ++ more)) false ≡ true
        → option_map_or (λ (row : Row). explicit_source row.source) (cond t (Some (row_for one)) (find (λ (row : Row). bytes_eq row.id id) (map row_for uses ++ more))) false ≡ true
    go true e = refl
    go false e = e

tells_is_given : (id : List ℕ) (uses : List Use) (more : List Row) → (value : List ℕ) × Tells uses id value → is_given id (map row_for uses ++ more) ≡ true
tells_is_given id uses more told =
    let one : Use = record { name = id; value = told.0 } in
    told_is_given id uses more told.1.0 one told.1.1 (ap (λ (u : Use). u.name) told.1.2)

names_are_given : (names : List (List ℕ)) (uses : List Use) → IsFresh (codes "names") uses → is_given (codes "names") (map row_for uses ++ given (codes "names") names ∷ []) ≡ true
names_are_given names [] fresh = refl
names_are_given names (one ∷ uses) fresh = rw fresh.0 (names_are_given names uses fresh.1)

three : (a b d : Bool) → a ≡ true → b ≡ true → d ≡ true → (a && (b && (d && true))) ≡ true
three a b d e f g = ap (λ (t : Bool). t && (b && (d && true))) e ∙ ap (λ (t : Bool). t && (d && true)) f ∙ ap (λ (t : Bool). t && true) g

four : (a b d e : Bool) → a ≡ true → b ≡ true → d ≡ true → e ≡ true → (a && (b && (d && (e && true)))) ≡ true
four a b d e f g h i = ap (λ (t : Bool). t && (b && (d && (e && true)))) f ∙ three b d e g h i

-- what may not be left out is there
required_given : (command : Command) (uses : List Use) (names : List (List ℕ)) → All (λ name. (value : List ℕ) × Tells uses name value) (required_of command) → IsFresh (codes "names") uses
    → list_all (λ rule. not rule.required || is_given rule.id (map row_for uses ++ given (codes "names") names ∷ [])) (words_rules command) ≡ true
required_given Synth uses names required fresh =
    let more = given (codes "names") names ∷ [] in
    three (is_given (codes "pointers") (map row_for uses ++ more)) (is_given (codes "lines") (map row_for uses ++ more)) (is_given (codes "names") (map row_for uses ++ more))
    (tells_is_given (codes "pointers") uses more (required 0 [] (lit< tt))) (tells_is_given (codes "lines") uses more (required 1 [] (lit< tt))) (names_are_given names uses fresh)
required_given Check uses names required fresh =
    let more = given (codes "names") names ∷ [] in
    four (is_given (codes "pointers") (map row_for uses ++ more)) (is_given (codes "lines") (map row_for uses ++ more)) (is_given (codes "answer") (map row_for uses ++ more)) (is_given (codes "names") (map row_for uses ++ more))
    (tells_is_given (codes "pointers") uses more (required 0 [] (lit< tt))) (tells_is_given (codes "lines") uses more (required 1 [] (lit< tt))) (tells_is_given (codes "answer") uses more (required 2 [] (lit< tt))) (names_are_given names uses fresh)
required_given Run uses names required fresh =
    let more = given (codes "names") names ∷ [] in
    three (is_given (codes "pointers") (map row_for uses ++ more)) (is_given (codes "program") (map row_for uses ++ more)) (is_given (codes "names") (map row_for uses ++ more))
    (tells_is_given (codes "pointers") uses more (required 0 [] (lit< tt))) (tells_is_given (codes "program") uses more (required 1 [] (lit< tt))) (names_are_given names uses fresh)
required_given Gen uses names required fresh = ap (λ (t : Bool). t && true) (names_are_given names uses fresh)

defaults_pass : (command : Command) → list_all default_passes (words_rules command) ≡ true
defaults_pass Synth = refl
defaults_pass Check = refl
defaults_pass Run = refl
defaults_pass Gen = refl

are_free : (command : Command) → list_all (λ rule. rule.is_free) (words_rules command) ≡ true
are_free Synth = refl
are_free Check = refl
are_free Run = refl
are_free Gen = refl

-- the words after the name of a command are taken
level_taken : (command : Command) (uses : List Use) (names words : List (List ℕ)) → IsForm command uses names words → level_passes (words_shape command) [] nothing_held words false ≡ true
level_taken command uses [] words form =
    let some : 1 < 0 = form.some_instances in
    absurd (omega (arith, some))
level_taken command uses (name ∷ names) words form =
    let s = words_shape command in
    let end = form_ends command uses name names words form in
    let held = (walk (words_rules command) [] nothing_held words).held in
    let rows = map row_for uses ++ given (codes "names") (name ∷ names) ∷ [] in
    ap (λ (t : Bool). t && (settle_passes (words_rules command) false held && (list_all default_passes (words_rules command) && is_valid s (rows_after (words_rules command) [] words) false))) end.passes
    ∙ ap (λ (t : Bool). t && (list_all default_passes (words_rules command) && is_valid s (rows_after (words_rules command) [] words) false)) end.settles
    ∙ ap (λ (t : Bool). t && is_valid s (rows_after (words_rules command) [] words) false) (defaults_pass command)
    ∙ ap (λ (rs : List Row). is_valid s rs false) end.finishes
    ∙ ap (λ (t : Bool). t && list_all (λ rule. not rule.required || is_given rule.id rows) (words_rules command)) (are_free command)
    ∙ required_given command uses (name ∷ names) form.required (names_fresh (words_rules command) uses (reads_all command uses form.options.known))

-- after the name of a command all words are left to it
left_taken : (s : Shape) (names : Names) (w : Walk) (name : List ℕ) (seen words : List (List ℕ)) → walk_passes s names (record w { stopped = Some (name, seen) }) words ≡ true
unfolding walk_passes walked
left_taken s names w name seen [] = refl
left_taken s names w name seen (word ∷ words) = left_taken s names w name (seen ++ word ∷ []) words

-- whether a parse passes, by the walk over all words
abbrev passes_by : List (List ℕ) → Walk → Bool
passes_by all w = entered_passes (built parser_app) w.stopped && (walk_passes (built parser_app).top (names_of (built parser_app)) (walk_from nothing_held) all && (settle_passes (built parser_app).top.rules false w.held
    && (list_all default_passes (built parser_app).top.rules && is_valid (built parser_app).top (finished (built parser_app).top.rules w.held) (is_some (entered (built parser_app) w.stopped)))))

taken : (command : Command) (words : List (List ℕ)) → level_passes (words_shape command) [] nothing_held words false ≡ true → takes parser_app (name_of command ∷ words) ≡ true
unfolding clap_on_literals
taken Synth words level =
    ap (passes_by (codes "synth" ∷ words)) (sym (walk_stopped (built parser_app).top.rules (names_of (built parser_app)) (walk_from nothing_held) (codes "synth") [] words))
    ∙ ap (λ (t : Bool). t && (walk_passes (built parser_app).top (names_of (built parser_app)) (record (walk_from nothing_held) { stopped = Some (codes "synth", []) }) words && true)) level
    ∙ ap (λ (t : Bool). t && true) (left_taken (built parser_app).top (names_of (built parser_app)) (walk_from nothing_held) (codes "synth") [] words)
taken Check words level =
    ap (passes_by (codes "check" ∷ words)) (sym (walk_stopped (built parser_app).top.rules (names_of (built parser_app)) (walk_from nothing_held) (codes "check") [] words))
    ∙ ap (λ (t : Bool). t && (walk_passes (built parser_app).top (names_of (built parser_app)) (record (walk_from nothing_held) { stopped = Some (codes "check", []) }) words && true)) level
    ∙ ap (λ (t : Bool). t && true) (left_taken (built parser_app).top (names_of (built parser_app)) (walk_from nothing_held) (codes "check") [] words)
taken Run words level =
    ap (passes_by (codes "run" ∷ words)) (sym (walk_stopped (built parser_app).top.rules (names_of (built parser_app)) (walk_from nothing_held) (codes "run") [] words))
    ∙ ap (λ (t : Bool). t && (walk_passes (built parser_app).top (names_of (built parser_app)) (record (walk_from nothing_held) { stopped = Some (codes "run", []) }) words && true)) level
    ∙ ap (λ (t : Bool). t && true) (left_taken (built parser_app).top (names_of (built parser_app)) (walk_from nothing_held) (codes "run") [] words)
taken Gen words level =
    ap (passes_by (codes "gen" ∷ words)) (sym (walk_stopped (built parser_app).top.rules (names_of (built parser_app)) (walk_from nothing_held) (codes "gen") [] words))
    ∙ ap (λ (t : Bool). t && (walk_passes (built parser_app).top (names_of (built parser_app)) (record (walk_from nothing_held) { stopped = Some (codes "gen", []) }) words && true)) level
    ∙ ap (λ (t : Bool). t && true) (left_taken (built parser_app).top (names_of (built parser_app)) (walk_from nothing_held) (codes "gen") [] words)

-- clap takes words that have the form
pub form_taken : (command : Command) (words : List (List ℕ)) → HasForm command words → takes parser_app (name_of command ∷ words) ≡ true
form_taken command words form = taken command words (level_taken command form.0 form.1 words form.2)
