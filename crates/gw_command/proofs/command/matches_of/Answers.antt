-- The command is the one that was described.
use Rattle.std.proofs.Common.{ap, ap₂, map, true, subst, ◌≡◌, ◌∙◌, IfOk, IfErr}
use Rattle.clap.specs.Words.{App, HasMatchesOf, app_of, kind_of, takes, with_subcommand}
use Rattle.clap.specs.Simple.{app_of_fields, on_top}
use Rattle.clap.specs.declared.error.kind.ErrorKind.TheVariants.{OutOfMemory}
use Rattle.gw_command.specs.Words.{bxgate_app, core_app, versioned_app}
use Rattle.gw_command.proofs.command.matches_of.Goals as goal

command_is : (g : _) (c : goal.After-try_get_matches_from g) → app_of c.in_ok-command.command ≡ bxgate_app
command_is g c =
    let versioned : app_of c.version.result ≡ versioned_app =
    ap app_of_fields c.version.ensures ∙ ap (on_top (λ top. record top { has_version = true })) c.new.ensures.app in
    let with_core : app_of c.in_ok-subcommand.field-0 ≡ with_subcommand versioned_app core_app.top =
    c.in_ok-subcommand.ensures.shape c.in_ok-core.ensures.local
    ∙ ap₂ with_subcommand versioned (ap (λ (a : App). a.top) c.in_ok-core.ensures.app) in
    c.in_ok-command.ensures.shape c.in_ok-run.ensures.local
    ∙ ap₂ with_subcommand with_core (ap (λ (a : App). a.top) c.in_ok-run.ensures.app)

pub returns-clause-matches : goal.returns-clause-matches
returns-clause-matches g c =
    let P : App → Type 0 =
    λ a. IfOk c.try_get_matches_from.result (HasMatchesOf a (map g.S.AsStr.text c.args.words.now)) in
    subst P (command_is g c) c.try_get_matches_from.ensures.matches

pub returns-clause-fails : goal.returns-clause-fails
returns-clause-fails g c =
    let P : App → Type 0 = λ a. IfErr c.try_get_matches_from.result
    (λ e. takes a (map g.S.AsStr.text c.args.words.now) ≡ true → kind_of e ≡ OutOfMemory) in
    subst P (command_is g c) c.try_get_matches_from.ensures.passes
