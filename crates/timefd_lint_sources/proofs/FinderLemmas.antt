-- Descriptions by how they are found.
use Rattle.std.proofs.Common.{◌≡◌, List, sym, subst}
use Rattle.std.specs.List.{All}
use denote.Ref.{Bor}
use Rattle.timefd_lint_scan.specs.declared.keys.format.FileFormat.{FileFormat}
use Rattle.timefd_lint_scan.specs.declared.keys.key.DescriptionKey.{DescriptionKey}
use Rattle.timefd_lint_scan.specs.Keys.Found as keyed
use Rattle.timefd_lint_scan.specs.declared.description.SourceDescription.{SourceDescription}
use Rattle.timefd_lint_scan.specs.declared.own_call.OwnCall.{OwnCall}
use Rattle.timefd_lint_scan.specs.DocLooks.{AreDescriptionsOf}
use Rattle.timefd_lint_scan.specs.Found.{AllStandIn}
use Rattle.timefd_lint_sources.specs.declared.reported.Finder.TheVariants.{Rust, Keys}
use Rattle.timefd_lint_sources.specs.declared.reported.SourceText.{SourceText}
use Rattle.timefd_lint_sources.specs.Reported.{AllFound, AreAllBy, AreAllOf, IsFoundBy}

pub by_rust : (s : SourceText) (calls : Bor (List OwnCall)) (ds : List SourceDescription) → s.finder ≡ Rust calls
    → AllStandIn s.text.now ds → AllFound s ds
by_rust s calls ds is stand = subst (λ f. All (IsFoundBy f s.text.now) ds) (sym is) stand

pub by_keys : (s : SourceText) (format : FileFormat) (keys : Bor (List DescriptionKey)) (ds : List SourceDescription)
    → s.finder ≡ Keys format keys → keyed.AllValues format s.text.now keys.now ds → AllFound s ds
by_keys s format keys ds is stand = subst (λ f. All (IsFoundBy f s.text.now) ds) (sym is) stand

pub all_by_rust : (s : SourceText) (calls : Bor (List OwnCall)) (ds : List SourceDescription) → s.finder ≡ Rust calls
    → AreDescriptionsOf s.text.now calls.now ds → AreAllOf s ds
all_by_rust s calls ds is all = subst (λ f. AreAllBy f s.text.now ds) (sym is) all

pub all_by_keys : (s : SourceText) (format : FileFormat) (keys : Bor (List DescriptionKey)) (ds : List SourceDescription)
    → s.finder ≡ Keys format keys → keyed.AreAllValues format s.text.now keys.now ds → AreAllOf s ds
all_by_keys s format keys ds is all = subst (λ f. AreAllBy f s.text.now ds) (sym is) all
