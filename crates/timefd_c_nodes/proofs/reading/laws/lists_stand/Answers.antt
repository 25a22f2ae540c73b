use Rattle.std.proofs.Common.{ℕ, ◌≡◌, drop, length, refl, take}
use Rattle.timefd_lang_component.specs.Tree.{trees}
use Rattle.timefd_language.specs.Letters.{unflagged, item_of}
use Rattle.timefd_language.specs.Strftime.{Directives, AreDirectives, directive, no_directives}
use Rattle.timefd_lang_node_list.specs.Views.{walked_all}
use Rattle.timefd_language.specs.declared.strftime.letter.Composite.{Composite}
use Rattle.timefd_language.specs.declared.strftime.letter.Composite.TheVariants.{DateAndTime, ShortDate, IsoDate, TimeOf12, HourAndMinute, TimeOf24, Offset}
use Rattle.timefd_language.specs.Directives.LetterMeaning.{composite_list}
use Rattle.timefd_c_nodes.specs.Reading.Composites.{composite_items, composite_tree, start_of}
use Rattle.timefd_c_nodes.proofs.reading.laws.lists_stand.Goals as goal

abbrev letter : ℕ → Composite → Directives → Directives
letter b c rest = directive unflagged b (composite_tree c) rest

abbrev all_letters : Directives
all_letters =
    letter 99 DateAndTime (letter 68 ShortDate (letter 70 IsoDate (letter 114 TimeOf12
    (letter 82 HourAndMinute (letter 84 TimeOf24 (letter 122 Offset no_directives))))))

are_letters : AreDirectives all_letters
unfolding item_of
are_letters = (
  tt,
  refl,
  refl,
  (tt, refl, refl, (tt, refl, refl, (tt, refl, refl, (tt, refl, refl, (tt, refl, refl, (tt, refl, refl, tt)))))),
)

stands : (c : Composite)
    → take (length (composite_list c)) (drop (start_of c) (walked_all (trees composite_items)))
    ≡ composite_list c
stands DateAndTime = refl
stands ShortDate = refl
stands IsoDate = refl
stands TimeOf12 = refl
stands HourAndMinute = refl
stands TimeOf24 = refl
stands Offset = refl

pub returns : goal.returns
returns c = record { spelled = (all_letters, are_letters, refl, refl); stand = stands }
