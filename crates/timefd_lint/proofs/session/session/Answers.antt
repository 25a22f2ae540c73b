use Rattle.std.proofs.Common.{inl, inr}
use Rattle.std.proofs.lemmas.Result.{IfOk-weaker}
use Rattle.timefd_lint_lsp.specs.Sessions.{at}
use Rattle.timefd_lint.specs.Roots.{IsNew}
use Rattle.timefd_lint.proofs.SessionLemmas.{session_unset}
use Rattle.timefd_lint.proofs.session.session.Goals as goal

pub returns-in-Some-clause-session : goal.returns-in-Some-clause-session
returns-in-Some-clause-session g c = (
  c.new-server.result,
  record {
    phase = c.new-server.ensures.phase;
    root = c.new-server.ensures.root;
    documents = c.new-server.ensures.documents;
  },
  inl (record {
    served = c.in-Some.ensures.greeted.0;
    last = c.greet.new.server;
    greeted = c.in-Some.ensures.greeted.1;
  }),
)

pub returns-clause-session : goal.returns-clause-session
returns-clause-session g c =
    let new : IsNew c.new-server.result = record {
      phase = c.new-server.ensures.phase;
      root = c.new-server.ensures.root;
      documents = c.new-server.ensures.documents;
    } in
    IfOk-weaker c.served.result _ _
    (λ end is. (
      c.new-server.result,
      new,
      inr (
        at (g.R.Source.remaining c.greet.new.source) (g.W.Sink.contents c.greet.new.sink) c.greet.new.server,
        record { served = c.in_default.ensures.greeted.0; greeted = c.in_default.ensures.greeted.1 },
        is,
      ),
    ))
    c.served.ensures.served

pub returns-clause-unset : goal.returns-clause-unset
returns-clause-unset g c =
    let new : IsNew c.new-server.result = record {
      phase = c.new-server.ensures.phase;
      root = c.new-server.ensures.root;
      documents = c.new-server.ensures.documents;
    } in
    session_unset (g.S.FileSystem.holds c.args.system.now) (g.S.FileSystem.fails c.args.system.now)
    (g.S.FileSystem.folders c.args.system.now) c.args.here.now c.new-server.result c.greet.new.server
    (g.R.Source.remaining c.args.source.now) (g.W.Sink.contents c.args.sink.now)
    (g.R.Source.remaining c.greet.new.source) (g.W.Sink.contents c.greet.new.sink)
    (g.R.Source.remaining c.served.new.source) (g.W.Sink.contents c.served.new.sink) c.served.result new
    (record { served = c.in_default.ensures.greeted.0; greeted = c.in_default.ensures.greeted.1 })
    c.served.ensures.unset c.served.ensures.still
