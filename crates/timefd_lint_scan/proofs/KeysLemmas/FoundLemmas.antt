-- Values of keys, stop after stop.
use Rattle.std.proofs.Common.{ℕ, ◌≡◌, ◌<◌, ◌≤◌, ◌+◌, List, [], ◌∷◌, ◌++◌, ap, append_assoc, append-nil, drop, get_or, length, refl, subst, sym, take, ◌∙◌}
use Rattle.std.proofs.lemmas.List.{drop_more, take-append-drop}
use Rattle.std.specs.List.{All}
use Rattle.std.specs.Option.{option_to_list}
use Rattle.timefd_lint_scan.specs.Bytes.{Text}
use Rattle.timefd_lint_scan.proofs.FoundLemmas as found
use Rattle.timefd_lint_scan.proofs.FoundLemmas.{AreUpTo}
use Rattle.timefd_lint_scan.specs.declared.description.SourceDescription.{SourceDescription}
use Rattle.timefd_lint_scan.specs.Found.{begun_after, end_after}
use Rattle.timefd_lint_scan.specs.declared.keys.format.FileFormat.{FileFormat}
use Rattle.timefd_lint_scan.specs.declared.keys.format.FileFormat.TheVariants.{Toml, Json, Yaml}
use Rattle.timefd_lint_scan.specs.declared.keys.key.DescriptionKey.{DescriptionKey}
use Rattle.timefd_lint_scan.specs.declared.keys.spot.KeySpot.{KeySpot}
use Rattle.timefd_lint_scan.specs.declared.keys.step.Step.{Step}
use Rattle.timefd_lint_scan.specs.Keys.Comments.{IsLineAt, first_line}
use Rattle.timefd_lint_scan.specs.Keys.Found.{AllValues, AreAllValues, AreValues, IsStep, IsStop, IsWay, StandsIn, Stop, found_at, unread_at}
use Rattle.timefd_lint_scan.specs.Keys.Visits.{first_spot, moved, visit_at}

pub none_yet : (format : FileFormat) (source : Text) → AreUpTo (StandsIn format source) [] 0
none_yet format source = found.none_yet (StandsIn format source)

-- No comment precedes the first line.
pub first_line_reported : (format : FileFormat) (source : Text) → IsLineAt format source 0 first_line
first_line_reported Toml source = record { start = refl; reported = refl }
first_line_reported Json source = record { start = refl; reported = refl }
first_line_reported Yaml source = record { start = refl; reported = refl }

-- What is found at the stops up to a spot.
pub record AreAt (format : FileFormat) (source : Text) (keys : List DescriptionKey) (spot : KeySpot) (end : ℕ)
    (ds : List SourceDescription) (unread : List ℕ) : Type 0 where
  pub stops : List Stop
  pub way : IsWay format source keys first_spot 0 stops spot end
  pub all : ds ≡ found_at stops
  pub rest : unread ≡ unread_at stops

pub no_stop_yet : (format : FileFormat) (source : Text) (keys : List DescriptionKey)
    → AreAt format source keys first_spot 0 [] []
no_stop_yet format source keys = record { stops = []; way = (refl, refl); all = refl; rest = refl }

way_more : (format : FileFormat) (source : Text) (keys : List DescriptionKey) (from : KeySpot) (start : ℕ) (stops : List Stop)
    (spot : KeySpot) (end : ℕ) (stop : Stop) → IsWay format source keys from start stops spot end
    → IsStop format source keys spot end stop
    → IsWay format source keys from start (stops ++ stop ∷ []) stop.next stop.end
way_more format source keys from start [] spot end stop way is = (
  subst (λ (s : KeySpot). IsStop format source keys s start stop) (sym way.0)
      (subst (λ (n : ℕ). IsStop format source keys spot n stop) (sym way.1) is),
  (refl, refl),
)
way_more format source keys from start (first ∷ stops) spot end stop way is =
    (way.0, way_more format source keys first.next first.end stops spot end stop way.1 is)

found_more : (stops : List Stop) (stop : Stop)
    → found_at (stops ++ stop ∷ []) ≡ found_at stops ++ option_to_list stop.found
found_more [] stop = append-nil (option_to_list stop.found)
found_more (first ∷ stops) stop =
    ap (λ (ds : List SourceDescription). option_to_list first.found ++ ds) (found_more stops stop)
    ∙ sym (append_assoc (option_to_list first.found) (found_at stops) (option_to_list stop.found))

unread_more : (stops : List Stop) (stop : Stop)
    → unread_at (stops ++ stop ∷ []) ≡ unread_at stops ++ option_to_list stop.unread
unread_more [] stop = append-nil (option_to_list stop.unread)
unread_more (first ∷ stops) stop =
    ap (λ (ns : List ℕ). option_to_list first.unread ++ ns) (unread_more stops stop)
    ∙ sym (append_assoc (option_to_list first.unread) (unread_at stops) (option_to_list stop.unread))

-- One more stop.
pub one_more : (format : FileFormat) (source : Text) (keys : List DescriptionKey) (spot next : KeySpot) (end last : ℕ)
    (ds more_ds : List SourceDescription) (unread more_unread : List ℕ) (step : Step)
    → AreAt format source keys spot end ds unread
    → spot.at < length source → IsStep format source (visit_at format source keys spot) step
    → more_ds ≡ ds ++ option_to_list (begun_after end step.found)
    → last ≡ end_after end (begun_after end step.found)
    → more_unread ≡ unread ++ option_to_list step.unread
    → next ≡ moved source spot.at step.next
    → AreAt format source keys next last more_ds more_unread
one_more format source keys spot next end last ds more_ds unread more_unread step so_far within is pushed ends left moves =
    let stop : Stop = record {
      found = begun_after end step.found;
      unread = step.unread;
      end = last;
      next = next;
    } in
    let stops : IsStop format source keys spot end stop = record {
      within = within;
      answer = step.found;
      is = is.found;
      found = refl;
      ends = ends;
      unread = is.unread;
      next = moves ∙ ap (moved source spot.at) is.next;
    } in record {
      stops = so_far.stops ++ stop ∷ [];
      way = way_more format source keys first_spot 0 so_far.stops spot end stop so_far.way stops;
      all = pushed ∙ (ap (λ (l : List SourceDescription). l ++ option_to_list (begun_after end step.found)) so_far.all
          ∙ sym (found_more so_far.stops stop));
      rest = left ∙ (ap (λ (l : List ℕ). l ++ option_to_list step.unread) so_far.rest
          ∙ sym (unread_more so_far.stops stop));
    }

pub at_last : (format : FileFormat) (source : Text) (keys : List DescriptionKey) (spot : KeySpot) (end : ℕ)
    (ds : List SourceDescription) (unread : List ℕ) → AreAt format source keys spot end ds unread
    → length source ≤ spot.at → AreValues format source keys ds unread
at_last format source keys spot end ds unread so_far whole = record {
  stops = so_far.stops;
  last = spot;
  end = end;
  way = so_far.way;
  whole = whole;
  all = so_far.all;
  rest = so_far.rest;
}

pub all_values : (format : FileFormat) (source : Text) (keys : List DescriptionKey) (ds : List SourceDescription) (unread : List ℕ)
    → AreValues format source keys ds unread → AreAllValues format source keys ds
all_values format source keys ds unread values = (unread, values)

pub each_value : (format : FileFormat) (source : Text) (keys : List DescriptionKey) (ds : List SourceDescription) (unread : List ℕ)
    → AreValues format source keys ds unread → All (StandsIn format source) ds → AllValues format source keys ds
each_value format source keys ds unread values stand = λ k other below. record {
  stands = stand k other below;
  before = take k ds;
  after = drop (k + 1) ds;
  unread = unread;
  values = subst (λ (l : List SourceDescription). AreValues format source keys l unread) (split k other below) values;
}
  where
    split : (k : ℕ) (other : SourceDescription) → k < length ds → ds ≡ take k ds ++ get_or ds k other ∷ drop (k + 1) ds
    split k other below = sym (take-append-drop k ds)
        ∙ ap (λ (l : List SourceDescription). take k ds ++ l) (drop_more ds k other below)

pub each_at_last : (format : FileFormat) (source : Text) (keys : List DescriptionKey) (spot : KeySpot) (end last : ℕ)
    (ds : List SourceDescription) (unread : List ℕ) → AreAt format source keys spot end ds unread
    → length source ≤ spot.at → AreUpTo (StandsIn format source) ds last → AllValues format source keys ds
each_at_last format source keys spot end last ds unread so_far whole up_to =
    each_value format source keys ds unread (at_last format source keys spot end ds unread so_far whole) up_to.each
