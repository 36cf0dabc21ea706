use Rattle.sqlite.specs.State.{HasCleanDisk}
use Rattle.sqlite.specs.Files.{file_state}
use Rattle.sqlite.specs.WalFiles.{image_at}
use Rattle.press_store.proofs.Reopened.{begins_new, finds_again, finds_served, is_up, leaves_found, were_sound}
use Rattle.press_store.proofs.sql_store.SqlStore+FileStore+FileFrom+S.open_from.Goals as goal

pub returns-in-Ok-adopt-clause-up : goal.returns-in-Ok-adopt-clause-up
returns-in-Ok-adopt-clause-up g c clean ours = is_up (file_state c.in-Ok.conn) (file_state c.in-Ok-adopt.store.conn) (c.in-Ok-adopt.ensures.adopts clean ours)

pub returns-in-Ok-adopt-clause-found : goal.returns-in-Ok-adopt-clause-found
returns-in-Ok-adopt-clause-found g c clean ours =
    let was = c.in-Ok.conn in
    let early : HasCleanDisk (file_state was) = c.in-Ok-adopt.ensures.clean clean in
    finds_again (file_state was) (file_state c.in-Ok-adopt.store.conn) (image_at g.S.Start) (c.in-Ok.ensures.found early) (c.in-Ok-adopt.ensures.adopts clean ours)

pub returns-in-Ok-adopt-clause-ours : goal.returns-in-Ok-adopt-clause-ours
returns-in-Ok-adopt-clause-ours g c clean served =
    let was = c.in-Ok.conn in
    let early : HasCleanDisk (file_state was) = c.in-Ok-adopt.ensures.clean clean in
    let opened = c.in-Ok.ensures.opened early in
    c.in-Ok-adopt.ensures.ours (finds_served (file_state was) (image_at g.S.Start) opened.0 opened.1 (c.in-Ok.ensures.found early) served)

pub returns-in-Ok-adopt-clause-new : goal.returns-in-Ok-adopt-clause-new
returns-in-Ok-adopt-clause-new g c clean ours =
    let was = c.in-Ok.conn in
    let early : HasCleanDisk (file_state was) = c.in-Ok-adopt.ensures.clean clean in
    let opened = c.in-Ok.ensures.opened early in
    begins_new (file_state was) (file_state c.in-Ok-adopt.store.conn) (image_at g.S.Start) opened.0 opened.1 (c.in-Ok.ensures.found early) (c.in-Ok-adopt.ensures.adopts clean ours)

pub returns-in-Ok-adopt-clause-sound : goal.returns-in-Ok-adopt-clause-sound
returns-in-Ok-adopt-clause-sound g c clean ours =
    let was = c.in-Ok.conn in
    let early : HasCleanDisk (file_state was) = c.in-Ok-adopt.ensures.clean clean in
    let opened = c.in-Ok.ensures.opened early in
    were_sound (file_state was) (file_state c.in-Ok-adopt.store.conn) (image_at g.S.Start) opened.0 opened.1 (c.in-Ok.ensures.found early) (c.in-Ok-adopt.ensures.adopts clean ours)

pub returns-in-Err-adopt-clause-left : goal.returns-in-Err-adopt-clause-left
returns-in-Err-adopt-clause-left g c clean served =
    let was = c.in-Ok.conn in
    let left = c.in-Err-adopt.ensures.left clean in
    let opened = c.in-Ok.ensures.opened left.0 in
    let found = c.in-Ok.ensures.found left.0 in
    leaves_found (file_state was) (file_state c.in-Err-adopt.conn) (image_at g.S.Start) opened.0 opened.1 found
    (left.1 (finds_served (file_state was) (image_at g.S.Start) opened.0 opened.1 found served) opened.0.is_open)
