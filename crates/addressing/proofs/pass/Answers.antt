-- `addressing::pass` meets its contract: what it has seen, with what is left at the cursor, tells of all the data.
use lib.ListN.{length}
use mathlib.Core.Bool.{Bool}
use mathlib.Core.Path.{◌≡◌, sym, ap, ◌∙◌, subst}
use Prim.Native.Nat.{◌+◌}
use native.Mathlib.Omega.{arith}
use Rattle.addressing.proofs.CursorLaws.{Left, left_of, Tells, tells, told, told-nothing, told-bad, told-function, told-all, given_walk}
use Rattle.std.specs.Prelude.{Some}
use Rattle.refusals.specs.Refusals.{number_of}
use Rattle.addressing.specs.Cursor.{Header, header_found, header_told, seen_after}
use Rattle.addressing.specs.Walk.{hears}
use Rattle.addressing.specs.Cursor as header
use Rattle.addressing.specs.declared.Header.{Header as CodeHeader}
use Rattle.addressing.specs.declared.Seen.{Seen}
use Rattle.addressing.proofs.pass.Goals as goal
use Rattle.addressing.proofs.pass.Goals.{After-header_at, In-Ok-Some-Function, In-Ok-Some-Group}

-- what the header that was found tells
found : (c : After-header_at) (h : Header) → header_told c.header_at.result ≡ h
    → Tells c.args.own c.args.transmitter c.args.«data».now c.loop-owner.c h
found c h e =
    let a = c.args in
    let v = c.loop-owner in
    subst (Tells a.own a.transmitter a.«data».now v.c) (sym c.header_at.ensures ∙ e) (tells a.own a.transmitter a.«data».now v.c v.invariant.0 v.invariant.1)

abbrev GroupFound : In-Ok-Some-Group → Type 0
GroupFound c =
    let a = c.args in
    Tells a.own a.transmitter a.«data».now c.loop-owner.c (header.Group c.in-Ok-Some-Group.owner c.in-Ok-Some-Group.bytes)

group-found : (c : In-Ok-Some-Group) → GroupFound c
group-found c = found (goal.at.In-Ok-Some-Group c).After-header_at (header.Group c.in-Ok-Some-Group.owner c.in-Ok-Some-Group.bytes) (ap header_told c.in-Ok-Some-Group.is ∙ ap header_found c.in-Ok-Some-Group.field-0-is ∙ ap (λ (x : CodeHeader). header_found (Some x)) c.in-Ok-Some-Group.field-0-0-is)

abbrev FunctionFound : In-Ok-Some-Function → Type 0
FunctionFound c =
    let a = c.args in
    Tells a.own a.transmitter a.«data».now c.loop-owner.c (header.Function c.in-Ok-Some-Function.tag c.in-Ok-Some-Function.body)

function-found : (c : In-Ok-Some-Function) → FunctionFound c
function-found c = found (goal.at.In-Ok-Some-Function c).After-header_at (header.Function c.in-Ok-Some-Function.tag c.in-Ok-Some-Function.body) (ap header_told c.in-Ok-Some-Function.is ∙ ap header_found c.in-Ok-Some-Function.field-0-is ∙ ap (λ (x : CodeHeader). header_found (Some x)) c.in-Ok-Some-Function.field-0-0-is)

pub loop-owner-init : goal.loop-owner-init
loop-owner-init c =
    let a = c.args in
    let d = a.«data».now in
    (omega arith, omega arith, rw c.new-seen.ensures (told-all a.own d a.transmitter a.place))

pub overflow_add-end : goal.overflow_add-end
overflow_add-end c = omega (arith, (group-found c).0)

pub loop-owner-smaller-in-Ok-Some-Group : goal.loop-owner-smaller-in-Ok-Some-Group
loop-owner-smaller-in-Ok-Some-Group c = omega (arith, (group-found c).0)

pub loop-owner-preserved-in-Ok-Some-Group : goal.loop-owner-preserved-in-Ok-Some-Group
loop-owner-preserved-in-Ok-Some-Group c =
    let a = c.args in
    let v = c.loop-owner in
    let f = group-found c in
    (omega arith, f.0, ap (told (length a.«data».now) v.seen) (sym f.1) ∙ v.invariant.2)

pub overflow_add-next : goal.overflow_add-next
overflow_add-next c = omega (arith, (function-found c).0)

pub loop-owner-smaller : goal.loop-owner-smaller
loop-owner-smaller c = omega (arith, (function-found (goal.at.loop-owner-smaller c).In-Ok-Some-Function).0)

pub loop-owner-preserved : goal.loop-owner-preserved
loop-owner-preserved c =
    let a = c.args in
    let v = c.loop-owner in
    let g = c.in-Ok-Some-Function in
    let n = length a.«data».now in
    let f = function-found (goal.at.loop-owner-preserved c).In-Ok-Some-Function in
    let then : c.after-seen.result ≡ seen_after (hears a.transmitter v.c.owner) v.c.at (given_walk v.c.at g.tag g.body) v.seen =
    c.after-seen.ensures ∙ ap (λ (b : Bool). seen_after b v.c.at (given_walk v.c.at g.tag g.body) v.seen) c.hears.ensures in
    let on : Left = left_of a.own a.transmitter a.«data».now (record { at = v.c.at + 2 + g.body; end = v.c.end; owner = v.c.owner }) in (
      f.0,
      v.invariant.1,
      ap (λ (s : Seen). told n s on) then
          ∙ sym (told-function n v.seen (hears a.transmitter v.c.owner) v.c.at g.tag g.body on)
          ∙ ap (told n v.seen) (sym f.1)
          ∙ v.invariant.2,
    )

pub returns-in-Err : goal.returns-in-Err
returns-in-Err c =
    let a = c.args in
    let v = c.loop-owner in
    let n = number_of c.in-Err.refusal in
    let f = found (goal.at.returns-in-Err c).After-header_at (header.Bad n) (ap header_told c.in-Err.is) in
    sym (told-bad (length a.«data».now) v.seen _ n v.c.at f.0 f.1) ∙ v.invariant.2

pub returns-in-Ok-None : goal.returns-in-Ok-None
returns-in-Ok-None c =
    let a = c.args in
    let v = c.loop-owner in
    let f = found (goal.at.returns-in-Ok-None c).After-header_at header.Nothing (ap header_told c.in-Ok-None.is ∙ ap header_found c.in-Ok-None.field-0-is) in
    sym (told-nothing (length a.«data».now) v.seen _ f) ∙ v.invariant.2
