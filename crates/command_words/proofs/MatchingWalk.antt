-- The walk of clap over the words of options, in any order, and then names: what it comes to, and that it takes each word.
use Rattle.std.proofs.Common.{◌≡◌, ◌∙◌, ◌≤◌, ◌<◌, ◌+◌, refl, sym, ap, subst, arith, ℕ, zero, suc, ◌==◌, ◌&&◌, ◌||◌, if◌then◌else◌, nat_lt, nat_le, length, le-leb, Bool, true, false, not, true≢false, IsTrue, List, [], ◌∷◌, ◌++◌, map, Option, Some, None, option_and_then, fold, bytes_eq, codes, All, append-nil, append_assoc}
use Rattle.std.specs.Option.{option_map_or}
use Rattle.std.proofs.lemmas.List.{map-append}
use Rattle.std.specs.List.{list_all}
use Rattle.program_model.specs.declared.machine.TheConstants.{MAX_INSTANCES}
use Rattle.clap.specs.Lexer.{long_of, long_of_rest, short_of_rest, strip_byte}
use Rattle.clap.specs.Walk.{Held, Row, Rule, Step, Waiting, Walk, after_flag, after_step, arg_by_id, arg_by_index, arg_by_long, default_rows, finished, has_row, idle, long_met, long_or_other, next, nothing_held, option, option_word, plain_word, positional, pushed, reading_by, rows_after, settled, settled_rows, short_or_plain, subcommand_or_other, takes_several, walk, word_met, to_positional, trailing, used, used_as, used_by_id, value as a_name, walk_from, walked, with_default}
use Rattle.clap.specs.Simple.{Shape, filled, with_index}
use Rattle.clap.specs.Takes.{bundle_passes, flag_word_passes, long_passes, positional_passes, settle_passes, step_passes, turn_passes, use_passes, value_passes, walk_passes, word_passes}
use Rattle.clap.specs.declared.builder.action.ArgAction.TheVariants.{Set}
use Rattle.clap.specs.declared.builder.value_parser.Reading.TheVariants.{AsWritten}
use Rattle.command_words.specs.Words.{Use, AreWordsOf, AreUsesThen, apart, joined, is_file_name}
use Rattle.command_words.specs.Inner.Parser.{names_rule, option_rule}
use Rattle.command_words.proofs.MatchingRows.{given, row_for, IsFresh, used_fresh, AreFresh, fresh_no_row, same_bytes}

abbrev pub names_filled : Rule
names_filled = with_index 1 (filled names_rule)

-- clap reads the words of the option of this name as those of one of the rules
pub record Reads (rules : List Rule) (name : List ℕ) : Type 0 where
  pub is_required : Bool
  pub by_id : arg_by_id rules name ≡ Some (filled (option_rule name is_required))
  pub by_long : arg_by_long rules name ≡ Some (filled (option_rule name is_required))
  pub alone : long_of (codes "--" ++ name) ≡ Some (name, None)
  pub alone_no_end : bytes_eq (codes "--" ++ name) (45 ∷ 45 ∷ []) ≡ false
  pub with_value : (value : List ℕ) → long_of (codes "--" ++ name ++ codes "=" ++ value) ≡ Some (name, Some value)
  pub with_value_no_end : (value : List ℕ) → bytes_eq (codes "--" ++ name ++ codes "=" ++ value) (45 ∷ 45 ∷ []) ≡ false
  pub no_names : bytes_eq name (codes "names") ≡ false

-- each of the rules has no default
abbrev pub HaveNoDefaults : List Rule → Type 0
HaveNoDefaults [] = Unit {0}
HaveNoDefaults (rule ∷ rules) = (rule.defaults ≡ []) × HaveNoDefaults rules

-- the rules are those of options and of names
pub record TakeNames (rules : List Rule) : Type 0 where
  pub by_index : arg_by_index rules 1 ≡ Some names_filled
  pub by_id : arg_by_id rules (codes "names") ≡ Some names_filled
  pub no_defaults : HaveNoDefaults rules

not_dash : (t : Bool) → not t ≡ true → t ≡ false
not_dash true e = sym e
not_dash false e = refl

-- each of some values is taken
all_values : (names : List (List ℕ)) → list_all (value_passes names_filled) names ≡ true
all_values [] = refl
all_values (name ∷ names) = all_values names

module _ (s : Shape) where
  abbrev c : List Rule
  c = s.rules

  abbrev again : Bool
  again = s.args_override_self

  -- the walk after a step
  abbrev moved : List ℕ → Walk → Held × Step → Walk
  moved word w met = after_step c word w met.0 met.1

  -- the walk between two words, where this one waits for the next
  abbrev at_rest : Waiting → Held → Walk
  at_rest waiting h = record (walk_from h) { waiting = waiting }

  -- the walk over the names
  abbrev named : Held → List (List ℕ) → Held
  named h names = record h { pending = Some (codes "names", names) }

  -- ---- a word
  -- a word is taken, by what it is
  turn_by : (waiting : Waiting) (word : List ℕ) (h : Held) (met : Held × Step) → word_met c [] false waiting 1 word h ≡ met → word_passes s [] false waiting word h ≡ true → step_passes s 1 met.0 met.1 ≡ true
      → turn_passes s [] (at_rest waiting h) word ≡ true
  turn_by waiting word h met is word_passes_ step_passes_ =
      ap (λ (m : Held × Step). word_passes s [] false waiting word h && step_passes s 1 m.0 m.1) is
      ∙ ap (λ (t : Bool). t && step_passes s 1 met.0 met.1) word_passes_
      ∙ step_passes_

  step_by : (waiting : Waiting) (word : List ℕ) (h : Held) (met : Held × Step) → word_met c [] false waiting 1 word h ≡ met → walked c [] (at_rest waiting h) word ≡ moved word (at_rest waiting h) met
  unfolding walked
  step_by waiting word h met is = ap (moved word (at_rest waiting h)) is

  -- a word that begins with no dash is no flag
  no_flag : (waiting : Waiting) (word : List ℕ) (h : Held) → IsTrue (is_file_name word) → subcommand_or_other c None waiting 1 word h ≡ plain_word c waiting word h
  no_flag waiting [] h plain = absurd (true≢false (sym plain))
  no_flag waiting (b ∷ rest) h plain =
      let word = b ∷ rest in
      let no_dash : (b == 45) ≡ false = not_dash (b == 45) plain in
      ap (λ (t : Bool). if t && bytes_eq rest (45 ∷ []) then (h, trailing 1) else long_or_other c waiting word (long_of word) h) no_dash
      ∙ ap (λ (t : Bool). long_or_other c waiting word (option_and_then long_of_rest (option_and_then (strip_byte 45) (if t then Some rest else None))) h) no_dash
      ∙ ap (λ (t : Bool). short_or_plain c waiting word (option_and_then short_of_rest (if t then Some rest else None)) h) no_dash

  no_flag_passes : (word : List ℕ) (h : Held) → IsTrue (is_file_name word) → (bytes_eq word (45 ∷ 45 ∷ []) || flag_word_passes c again (long_of word) word h) ≡ true
  no_flag_passes [] h plain = absurd (true≢false (sym plain))
  no_flag_passes (b ∷ rest) h plain =
      let word = b ∷ rest in
      let no_dash : (b == 45) ≡ false = not_dash (b == 45) plain in
      ap (λ (t : Bool). (t && bytes_eq rest (45 ∷ [])) || flag_word_passes c again (long_of word) word h) no_dash
      ∙ ap (λ (t : Bool). flag_word_passes c again (option_and_then long_of_rest (option_and_then (strip_byte 45) (if t then Some rest else None))) word h) no_dash
      ∙ ap (λ (t : Bool). option_map_or (λ flags. bundle_passes c again flags h) (option_and_then short_of_rest (if t then Some rest else None)) true) no_dash

  -- the word of an option alone: its value is waited for
  alone_met : (name : List ℕ) (h : Held) → Reads c name → word_met c [] false idle 1 (codes "--" ++ name) h ≡ (record (settled c h) { pending = Some (name, []) }, next (option name))
  alone_met name h reads =
      let word = codes "--" ++ name in
      ap (λ (t : Bool). if t then (h, trailing 1) else long_or_other c idle word (long_of word) h) reads.alone_no_end
      ∙ ap (λ (o : Option (List ℕ × Option (List ℕ))). long_or_other c idle word o h) reads.alone
      ∙ ap (λ (r : Option Rule). after_flag c idle word (long_met c r None h).0 (long_met c r None h).1) reads.by_long

  alone_passes : (name : List ℕ) (h : Held) → Reads c name → settle_passes c again h ≡ true → word_passes s [] false idle (codes "--" ++ name) h ≡ true
  alone_passes name h reads settles =
      let word = codes "--" ++ name in
      ap (λ (t : Bool). t || flag_word_passes c again (long_of word) word h) reads.alone_no_end
      ∙ ap (λ (o : Option (List ℕ × Option (List ℕ))). flag_word_passes c again o word h) reads.alone
      ∙ ap (λ (r : Option Rule). long_passes c again r None h) reads.by_long
      ∙ settles

  -- the value that is waited for
  value_met : (name value : List ℕ) (h : Held) → Reads c name → IsTrue (is_file_name value) → word_met c [] false (option name) 1 value (record h { pending = Some (name, []) }) ≡ (record h { pending = Some (name, value ∷ []) }, next idle)
  value_met name value h reads plain =
      let held = record h { pending = Some (name, []) } in
      no_flag (option name) value held plain
      ∙ ap (λ (r : Option Rule). ((option_word r name value held).0, next (option_word r name value held).1)) reads.by_id
      ∙ ap (λ (t : Bool). (record h { pending = Some (name, value ∷ []) }, next (if nat_lt (if t then 1 else 0) 1 then option name else idle))) (same_bytes name)

  -- an option and its value in one word
  joined_met : (name value : List ℕ) (h : Held) (reads : Reads c name) → word_met c [] false idle 1 (codes "--" ++ name ++ codes "=" ++ value) h
      ≡ (record h { rows = used (filled (option_rule name reads.is_required)) (value ∷ []) (settled c h).rows; pending = None }, next idle)
  joined_met name value h reads =
      let word = codes "--" ++ name ++ codes "=" ++ value in
      ap (λ (t : Bool). if t then (h, trailing 1) else long_or_other c idle word (long_of word) h) (reads.with_value_no_end value)
      ∙ ap (λ (o : Option (List ℕ × Option (List ℕ))). long_or_other c idle word o h) (reads.with_value value)
      ∙ ap (λ (r : Option Rule). after_flag c idle word (long_met c r (Some value) h).0 (long_met c r (Some value) h).1) reads.by_long

  joined_passes : (name value : List ℕ) (h : Held) (reads : Reads c name) → settle_passes c again h ≡ true → use_passes again (filled (option_rule name reads.is_required)) (value ∷ []) (settled c h).rows ≡ true
      → word_passes s [] false idle (codes "--" ++ name ++ codes "=" ++ value) h ≡ true
  joined_passes name value h reads settles passes =
      let word = codes "--" ++ name ++ codes "=" ++ value in
      ap (λ (t : Bool). t || flag_word_passes c again (long_of word) word h) (reads.with_value_no_end value)
      ∙ ap (λ (o : Option (List ℕ × Option (List ℕ))). flag_word_passes c again o word h) (reads.with_value value)
      ∙ ap (λ (r : Option Rule). long_passes c again r (Some value) h) reads.by_long
      ∙ ap (λ (t : Bool). t && use_passes again (filled (option_rule name reads.is_required)) (value ∷ []) (settled c h).rows) settles
      ∙ passes

  -- ---- the walk over words
  -- the walk goes on to another and takes the words between
  pub record GoesOn (w : Walk) (words : List (List ℕ)) (next_w : Walk) (rest : List (List ℕ)) : Type 0 where
    pub walks : fold (walked c []) w words ≡ fold (walked c []) next_w rest
    pub passes : walk_passes s [] w words ≡ walk_passes s [] next_w rest

  and_then : (w v u : Walk) (words mid rest : List (List ℕ)) → GoesOn w words v mid → GoesOn v mid u rest → GoesOn w words u rest
  and_then w v u words mid rest one other = record { walks = one.walks ∙ other.walks; passes = one.passes ∙ other.passes }

  one_word : (w v : Walk) (word : List ℕ) (rest : List (List ℕ)) → walked c [] w word ≡ v → turn_passes s [] w word ≡ true → GoesOn w (word ∷ rest) v rest
  unfolding walk_passes
  one_word w v word rest walks passes = record {
    walks = ap (λ (u : Walk). fold (walked c []) u rest) walks;
    passes = ap (λ (t : Bool). t && walk_passes s [] (walked c [] w word) rest) passes ∙ ap (λ (u : Walk). walk_passes s [] u rest) walks;
  }

  -- ---- the uses of options
  -- what is held between two uses has rows for those before it
  pub record Holds (h : Held) (uses : List Use) : Type 0 where
    pub rows : settled_rows c h.pending h.rows ≡ map row_for uses
    pub free : option_map_or (λ (p : List ℕ × List (List ℕ)). bytes_eq p.0 (codes "names")) h.pending false ≡ false
    pub settles : settle_passes c again h ≡ true

  -- one more use is one more row
  more_rows : (one : Use) (before : List Use) (is_required : Bool) (rows : List Row) → rows ≡ map row_for before → IsFresh one.name before
      → used (filled (option_rule one.name is_required)) (one.value ∷ []) rows ≡ map row_for (before ++ one ∷ [])
  more_rows one before is_required rows is fresh =
      ap (used_as Set one.name AsWritten (one.value ∷ [])) is
      ∙ used_fresh one.name (one.value ∷ []) before fresh
      ∙ sym (map-append row_for before (one ∷ []))

  -- and it is taken
  more_passes : (one : Use) (before : List Use) (is_required : Bool) (rows : List Row) → rows ≡ map row_for before → IsFresh one.name before
      → use_passes again (filled (option_rule one.name is_required)) (one.value ∷ []) rows ≡ true
  more_passes one before is_required rows is fresh =
      ap (λ (t : Bool). (not t || again) && true) (ap (has_row one.name) is ∙ fresh_no_row one.name before fresh)

  pub record Reaches (w : Walk) (words : List (List ℕ)) (rest : List (List ℕ)) (uses : List Use) : Type 0 where
    pub held : Held
    pub goes : GoesOn w words (walk_from held) rest
    pub keeps : Holds held uses

  apart_use : (one : Use) (before : List Use) (h : Held) (rest : List (List ℕ)) → Holds h before → Reads c one.name → IsFresh one.name before → IsTrue (is_file_name one.value)
      → Reaches (walk_from h) ((codes "--" ++ one.name) ∷ one.value ∷ rest) rest (before ++ one ∷ [])
  apart_use one before h rest holds reads fresh plain =
      let waits = record (settled c h) { pending = Some (one.name, []) } in
      let after = record (settled c h) { pending = Some (one.name, one.value ∷ []) } in
      let word = codes "--" ++ one.name in
      record {
        held = after;
        goes = and_then (walk_from h) (at_rest (option one.name) waits) (walk_from after) (word ∷ one.value ∷ rest) (one.value ∷ rest) rest
            (one_word (walk_from h) (at_rest (option one.name) waits) word (one.value ∷ rest)
            (step_by idle word h (waits, next (option one.name)) (alone_met one.name h reads))
            (turn_by idle word h (waits, next (option one.name)) (alone_met one.name h reads) (alone_passes one.name h reads holds.settles) refl))
            (one_word (at_rest (option one.name) waits) (walk_from after) one.value rest
            (step_by (option one.name) one.value waits (after, next idle) (value_met one.name one.value (settled c h) reads plain))
            (turn_by (option one.name) one.value waits (after, next idle) (value_met one.name one.value (settled c h) reads plain) (no_flag_passes one.value waits plain) refl));
        keeps = record {
          rows = ap (λ (r : Option Rule). used_by_id r (one.value ∷ []) (settled c h).rows) reads.by_id ∙ more_rows one before reads.is_required (settled c h).rows holds.rows fresh;
          free = reads.no_names;
          settles = ap (λ (r : Option Rule). option_map_or (λ a. use_passes again a (one.value ∷ []) (settled c h).rows) r true) reads.by_id
              ∙ more_passes one before reads.is_required (settled c h).rows holds.rows fresh;
        };
      }

  joined_use : (one : Use) (before : List Use) (h : Held) (rest : List (List ℕ)) → Holds h before → Reads c one.name → IsFresh one.name before
      → Reaches (walk_from h) ((codes "--" ++ one.name ++ codes "=" ++ one.value) ∷ rest) rest (before ++ one ∷ [])
  joined_use one before h rest holds reads fresh =
      let after = record h { rows = used (filled (option_rule one.name reads.is_required)) (one.value ∷ []) (settled c h).rows; pending = None } in
      let word = codes "--" ++ one.name ++ codes "=" ++ one.value in
      record {
        held = after;
        goes = one_word (walk_from h) (walk_from after) word rest
            (step_by idle word h (after, next idle) (joined_met one.name one.value h reads))
            (turn_by idle word h (after, next idle) (joined_met one.name one.value h reads)
            (joined_passes one.name one.value h reads holds.settles (more_passes one before reads.is_required (settled c h).rows holds.rows fresh)) refl);
        keeps = record { rows = more_rows one before reads.is_required (settled c h).rows holds.rows fresh; free = refl; settles = refl };
      }

  one_use : (one : Use) (before : List Use) (front : List (List ℕ)) (h : Held) (rest : List (List ℕ)) → AreWordsOf one front → Holds h before → Reads c one.name → IsFresh one.name before → IsTrue (is_file_name one.value)
      → Reaches (walk_from h) (front ++ rest) rest (before ++ one ∷ [])
  one_use one before front h rest apart holds reads fresh plain = apart_use one before h rest holds reads fresh plain
  one_use one before front h rest joined holds reads fresh plain = joined_use one before h rest holds reads fresh

  all_uses : (uses before : List Use) (names words : List (List ℕ)) (h : Held) → AreUsesThen uses names words → All (λ one. Reads c one.name) uses → AreFresh before uses → All (λ one. IsTrue (is_file_name one.value)) uses
      → Holds h before → Reaches (walk_from h) words names (before ++ uses)
  all_uses [] before names words h spelled reads fresh plain holds = record {
    held = h;
    goes = record { walks = ap (fold (walked c []) (walk_from h)) spelled; passes = ap (walk_passes s [] (walk_from h)) spelled };
    keeps = subst (Holds h) (sym (append-nil before)) holds;
  }
  all_uses (one ∷ uses) before names words h spelled reads fresh plain holds =
      let front = spelled.0 in
      let rest = spelled.1 in
      let here = one_use one before front h rest spelled.2 holds (reads zero one (omega arith)) fresh.0 (plain zero one (omega arith)) in
      let others = all_uses uses (before ++ one ∷ []) names rest here.held spelled.4
      (λ k d within. reads (suc k) d (omega (arith, within))) fresh.1 (λ k d within. plain (suc k) d (omega (arith, within))) here.keeps in
      record {
        held = others.held;
        goes = subst (λ (ws : List (List ℕ)). GoesOn (walk_from h) ws (walk_from others.held) names) (sym spelled.3)
            (and_then (walk_from h) (walk_from here.held) (walk_from others.held) (front ++ rest) rest names here.goes others.goes);
        keeps = subst (Holds others.held) (append_assoc before (one ∷ []) uses) others.keeps;
      }

  -- ---- the names
  first_name : (h : Held) (name : List ℕ) (names : List (List ℕ)) (uses : List Use) → TakeNames c → Holds h uses → IsTrue (is_file_name name)
      → GoesOn (walk_from h) (name ∷ names) (at_rest positional (named (settled c h) (name ∷ []))) names
  first_name h name names uses takes holds plain =
      let met : word_met c [] false idle 1 name h ≡ (h, a_name) = no_flag idle name h plain in
      one_word (walk_from h) (at_rest positional (named (settled c h) (name ∷ []))) name names
      (step_by idle name h (h, a_name) met
      ∙ ap (λ (r : Option Rule). to_positional c r name (walk_from h) h) takes.by_index
      ∙ ap (λ (t : Bool). at_rest positional (pushed (codes "names") name (if t && takes_several names_filled then h else settled c h))) holds.free)
      (turn_by idle name h (h, a_name) met (no_flag_passes name h plain)
      (ap (λ (r : Option Rule). option_map_or (λ a. positional_passes c again a h) r false) takes.by_index
      ∙ ap (λ (t : Bool). (t && takes_several names_filled) || settle_passes c again h) holds.free
      ∙ holds.settles))

  next_name : (h : Held) (before : List (List ℕ)) (name : List ℕ) (names : List (List ℕ)) → TakeNames c → IsTrue (is_file_name name)
      → GoesOn (at_rest positional (named h before)) (name ∷ names) (at_rest positional (named h (before ++ name ∷ []))) names
  next_name h before name names takes plain =
      let held = named h before in
      let met : word_met c [] false positional 1 name held ≡ (held, a_name) = no_flag positional name held plain in
      one_word (at_rest positional held) (at_rest positional (named h (before ++ name ∷ []))) name names
      (step_by positional name held (held, a_name) met ∙ ap (λ (r : Option Rule). to_positional c r name (at_rest positional held) held) takes.by_index)
      (turn_by positional name held (held, a_name) met (no_flag_passes name held plain)
      (ap (λ (r : Option Rule). option_map_or (λ a. positional_passes c again a held) r false) takes.by_index))

  next_names : (h : Held) (before names : List (List ℕ)) → TakeNames c → All (λ name. IsTrue (is_file_name name)) names
      → GoesOn (at_rest positional (named h before)) names (at_rest positional (named h (before ++ names))) []
  next_names h before [] takes plain =
      subst (λ (all : List (List ℕ)). GoesOn (at_rest positional (named h before)) [] (at_rest positional (named h all)) []) (sym (append-nil before)) (record { walks = refl; passes = refl })
  next_names h before (name ∷ names) takes plain =
      let others = next_names h (before ++ name ∷ []) names takes (λ k d within. plain (suc k) d (omega (arith, within))) in
      subst (λ (all : List (List ℕ)). GoesOn (at_rest positional (named h before)) (name ∷ names) (at_rest positional (named h all)) []) (append_assoc before (name ∷ []) names)
      (and_then (at_rest positional (named h before)) (at_rest positional (named h (before ++ name ∷ []))) (at_rest positional (named h ((before ++ name ∷ []) ++ names))) (name ∷ names) names []
      (next_name h before name names takes (plain zero name (omega arith))) others)

  -- ---- the end
  either_rows : (t : Bool) (rows : List Row) → (if t then rows else rows) ≡ rows
  either_rows true rows = refl
  either_rows false rows = refl

  no_default : (rules : List Rule) (rows : List Row) → HaveNoDefaults rules → fold with_default rows rules ≡ rows
  no_default [] rows none = refl
  no_default (rule ∷ rules) rows none =
      ap (λ (ds : List (List ℕ)). fold with_default (if has_row rule.id rows then rows else default_rows rule.id (reading_by rule) ds rows) rules) none.0
      ∙ ap (λ (rs : List Row). fold with_default rs rules) (either_rows (has_row rule.id rows) rows)
      ∙ no_default rules rows none.1

  -- the words are taken, and the rows are those of the uses, and then the one of the names
  pub record EndsWith (words : List (List ℕ)) (rows : List Row) : Type 0 where
    pub finishes : rows_after c [] words ≡ rows
    pub passes : walk_passes s [] (walk_from nothing_held) words ≡ true
    pub settles : settle_passes c again (walk c [] nothing_held words).held ≡ true

  pub ends : (uses : List Use) (name : List ℕ) (names words : List (List ℕ)) → TakeNames c → AreUsesThen uses (name ∷ names) words → All (λ one. Reads c one.name) uses → AreFresh [] uses → IsFresh (codes "names") uses
      → All (λ one. IsTrue (is_file_name one.value)) uses → All (λ n. IsTrue (is_file_name n)) (name ∷ names) → 1 < length (name ∷ names) → length (name ∷ names) ≤ MAX_INSTANCES + 1
      → EndsWith words (map row_for uses ++ given (codes "names") (name ∷ names) ∷ [])
  unfolding walk_passes
  ends uses name names words takes spelled reads fresh no_names plain are_names some few =
      let start : Holds nothing_held [] = record { rows = refl; free = refl; settles = refl } in
      let reaches = all_uses uses [] (name ∷ names) words nothing_held spelled reads fresh plain start in
      let h = settled c reaches.held in
      let goes : GoesOn (walk_from nothing_held) words (at_rest positional (named h (name ∷ names))) [] =
      and_then (walk_from nothing_held) (walk_from reaches.held) (at_rest positional (named h (name ∷ names))) words (name ∷ names) [] reaches.goes
      (and_then (walk_from reaches.held) (at_rest positional (named h (name ∷ []))) (at_rest positional (named h (name ∷ names))) (name ∷ names) names []
      (first_name reaches.held name names uses takes reaches.keeps (are_names zero name (omega arith)))
      (next_names h (name ∷ []) names takes (λ k d within. are_names (suc k) d (omega (arith, within))))) in
      record {
        finishes = ap (λ (w : Walk). finished c w.held) goes.walks
            ∙ no_default c (settled c (named h (name ∷ names))).rows takes.no_defaults
            ∙ ap (λ (r : Option Rule). used_by_id r (name ∷ names) h.rows) takes.by_id
            ∙ ap (used_as Set (codes "names") AsWritten (name ∷ names)) reaches.keeps.rows
            ∙ used_fresh (codes "names") (name ∷ names) uses no_names;
        passes = goes.passes;
        settles = ap (λ (w : Walk). settle_passes c again w.held) goes.walks
            ∙ ap (λ (r : Option Rule). option_map_or (λ a. use_passes again a (name ∷ names) h.rows) r true) takes.by_id
            ∙ ap (λ (t : Bool). t && (nat_le (length (name ∷ names)) (MAX_INSTANCES + 1) && ((not (has_row (codes "names") h.rows) || again) && list_all (value_passes names_filled) (name ∷ names)))) (le-leb 2 (length (name ∷ names)) (omega (arith, some)))
            ∙ ap (λ (t : Bool). t && ((not (has_row (codes "names") h.rows) || again) && list_all (value_passes names_filled) (name ∷ names))) (le-leb (length (name ∷ names)) (MAX_INSTANCES + 1) few)
            ∙ ap (λ (t : Bool). (not t || again) && list_all (value_passes names_filled) (name ∷ names)) (ap (has_row (codes "names")) reaches.keeps.rows ∙ fresh_no_row (codes "names") uses no_names)
            ∙ all_values (name ∷ names);
      }
