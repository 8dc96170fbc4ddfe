-- Constants and objects whose types are known fit a task.
use Rattle.std.proofs.Common.{◌≡◌, ◌<◌, ◌≤◌, List, length, map, sym, ◌∙◌}
use Rattle.std.specs.Prelude.{All}
use Rattle.std.proofs.lemmas.List.{length-map}
use Rattle.std.proofs.lemmas.List.Elements.{All-map, All-weaker}
use Rattle.flag_rules.specs.Name.{IsName}
use Rattle.pddl_forms.specs.declared.texts.Word.{Word}
use Rattle.pddl_forms.specs.declared.texts.Typed.{Typed}
use Rattle.pddl_parser.specs.Spelled.{IsTypedSpelled}
use Rattle.ground_state.specs.declared.parts.ObjectEntry.{ObjectEntry}
use Rattle.ground_state.specs.declared.parts.TheConstants.{MAX_OBJECTS}
use Rattle.ground_state.specs.Task.{AreObjects}
use Rattle.pddl_task.specs.Types.{text_of, word_of, names_of, type_of, type_names, type_number, types_of}
use Rattle.pddl_task.specs.Parts.{object_of}
use Rattle.pddl_task.specs.Inner.Names.{AreApart}
use Rattle.pddl_task.proofs.Composed.{map-map}
use Rattle.pddl_task.proofs.Faultless.{IsTypedIn}
use Rattle.pddl_task.proofs.TypeParents.{number_there}
use Rattle.pddl_task.proofs.TypesFit.{types_long}

-- a typed list has as many names as items
pub names_long : (items : List Typed) → length (names_of items) ≡ length items
names_long items = length-map (map word_of items) text_of ∙ length-map items word_of

-- the number of a type that is known is that of a type
pub type_low : (types : List Typed) (typed : Typed) → IsTypedIn (type_names types) typed → type_number (type_names types) typed < length (types_of types)
type_low types typed known = rw (types_long types) (number_there (type_names types) (type_of typed) known)

-- the names of a typed list are spelled so
names_spelled : (items : List Typed) → All (IsTypedSpelled IsName) items → All IsName (names_of items)
names_spelled items spelled =
    All-map IsName text_of (map word_of items)
    (All-map (λ (word : Word). IsName word.text) word_of items
    (All-weaker (IsTypedSpelled IsName) (λ (typed : Typed). IsName typed.word.text) (λ typed of. of.own) items spelled))

-- the numbers of their types are in range, and their names differ
pub objects_fit : (types objects : List Typed) → length objects ≤ MAX_OBJECTS → All (IsTypedSpelled IsName) objects → AreApart (names_of objects) → All (IsTypedIn (type_names types)) objects
    → AreObjects (length (types_of types)) (map (object_of (type_names types)) objects)
objects_fit types objects few spelled apart known =
    let names : map (λ (entry : ObjectEntry). entry.name) (map (object_of (type_names types)) objects) ≡ names_of objects =
    map-map (λ (entry : ObjectEntry). entry.name) (object_of (type_names types)) objects ∙ sym (map-map text_of word_of objects) in
    record {
      few = rw length-map few;
      names = rw names (record { each = names_spelled objects spelled; differ = apart });
      in_range = All-map (λ (entry : ObjectEntry). entry.of < length (types_of types)) (object_of (type_names types)) objects
          (All-weaker (IsTypedIn (type_names types)) (λ typed. type_number (type_names types) typed < length (types_of types)) (type_low types) objects known);
    }
