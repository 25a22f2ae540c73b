use Rattle.std.proofs.Common.{◌∷◌, length, not, ap, sym, subst}
use Rattle.timefd_language.specs.Bytes.{left, is_version_three}
use Rattle.timefd_parse.specs.HeadVerdicts.{IsVerdict}
use Rattle.timefd_parse.proofs.head.verdict.judged_head.Goals as goal

pub returns-clause-head : goal.returns-clause-head
returns-clause-head c =
    let e = c.in_ok-head.ensures.head in
    let text = left ∷ c.args.inside.now in (
      (
        e.0.0,
        record {
          white = c.in_ok-head.head.white.now;
          is = e.0.1.is;
          verdict = subst
              (λ n. IsVerdict (is_version_three c.args.version) (length text) e.0.0 n c.head_verdict.result)
              (sym c.nests.ensures) (c.head_verdict.ensures.verdict (length text) e.0.0 e.0.1.shows);
          whole = e.0.1.whole;
          all_white = e.0.1.all_white;
          stops_white = e.0.1.stops_white;
          stops_word = e.0.1.stops_word;
          spaced = ap not c.is_empty.ensures;
        },
      ),
      e.1,
    )

pub returns-clause-span : goal.returns-clause-span
returns-clause-span c =
    let e = c.in_ok-head.ensures.head in
    c.head_verdict.ensures.span (left ∷ c.args.inside.now) _ e.0.0 e.0.1 c.in_ok-head.ensures.fault

pub returns-in-Some-clause-span : goal.returns-in-Some-clause-span
returns-in-Some-clause-span c = c.in-Some.ensures.span (left ∷ c.args.inside.now)
