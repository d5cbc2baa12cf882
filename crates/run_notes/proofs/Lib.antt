mod NoNotes
