-- A log has what SARIF requires.
use Rattle.std.proofs.Common.{true, false, List, [], ◌∷◌, Some, None, codes, map, refl}
use Rattle.json.specs.Value.{items_of}
use Rattle.timefd_web.specs.JsonLaws.Logs.{AllItems, Has, IsSarifResult, IsText, LogsAreSarif, Rule, rule, rule_value}
use Rattle.timefd_web.specs.JsonLaws.Results.{Result, fault, note, result_value}

is_result : (r : Result) → IsSarifResult (result_value r)
is_result (fault true code file line column end_line end_column message help None level) = record {
  message = (_, refl, (_, refl, (_, refl)));
  rule_id = (_, refl, (_, refl));
  locations = (_, refl, (_, refl, ((_, refl, (_, refl, (_, refl, (_, refl)))), tt)));
}
is_result (fault true code file line column end_line end_column message help (Some word) level) = record {
  message = (_, refl, (_, refl, (_, refl)));
  rule_id = (_, refl, (_, refl));
  locations = (_, refl, (_, refl, ((_, refl, (_, refl, (_, refl, (_, refl)))), tt)));
}
is_result (fault false code file line column end_line end_column message help None level) = record {
  message = (_, refl, (_, refl, (_, refl)));
  rule_id = (_, refl, (_, refl));
  locations = (_, refl, (_, refl, ((_, refl, (_, refl, (_, refl, (_, refl)))), tt)));
}
is_result (fault false code file line column end_line end_column message help (Some word) level) = record {
  message = (_, refl, (_, refl, (_, refl)));
  rule_id = (_, refl, (_, refl));
  locations = (_, refl, (_, refl, ((_, refl, (_, refl, (_, refl, (_, refl)))), tt)));
}
is_result (note code file line column message level) = record {
  message = (_, refl, (_, refl, (_, refl)));
  rule_id = (_, refl, (_, refl));
  locations = (_, refl, (_, refl, ((_, refl, (_, refl, (_, refl, (_, refl)))), tt)));
}

are_results : (rs : List Result) → AllItems IsSarifResult (items_of (map result_value rs))
are_results [] = tt
are_results (r ∷ rs) = (is_result r, are_results rs)

are_rules : (rs : List Rule) → AllItems (Has (codes "id") IsText) (items_of (map rule_value rs))
are_rules [] = tt
are_rules (rule name level summary explanation ∷ rs) = ((_, refl, (_, refl)), are_rules rs)

pub logs_are_sarif : LogsAreSarif
logs_are_sarif rules results = record {
  version = refl;
  runs = (
    _,
    refl,
    (
      _,
      refl,
      (
        record {
          tool = (
            _,
            refl,
            (
              _,
              refl,
              record {
                name = (_, refl, (_, refl));
                rules = (_, refl, (_, refl, are_rules rules));
              },
            ),
          );
          results = (_, refl, (_, refl, are_results results));
        },
        tt,
      ),
    ),
  );
}
